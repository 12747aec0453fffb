-- The lanes of lives: one for each slot of a chain that had a life. Our own.
--
-- To be read from the beginning: a place for each life, the places in order, and the bars that they become.
use Rattle.std.specs.Prelude.{◌≡◌, ℕ, ◌+◌, ◌==◌, ◌&&◌, not, Bool, true, List, [], ◌∷◌, ◌++◌, count_by, Option, Some, None, if◌then◌else◌}
use Rattle.std.specs.Option.{option_to_list}
use Rattle.std.specs.Ordering.{nat_cmp, ordering_then}
use Rattle.std.specs.declared.cmp.Ordering.{Ordering}
use Rattle.std.specs.List.Sorted.{IsPermutation, IsSorted}
use Rattle.record_reader.specs.declared.line.Line.{Line}
use Rattle.record_reader.specs.declared.line.Line.TheVariants as lines
use Rattle.race_picture.specs.declared.lanes.Place.{Place}
use Rattle.race_picture.specs.declared.lanes.Bar.{Bar}

-- in which chain and slot the life of a line stood, if the line is a life's; lines are counted from 0
abbrev pub place_in : ℕ → Line → Option Place
place_in at (lines.Life l) = Some (record { chain = l.bucket; slot = l.slot; line = at })
place_in at _ = None

-- the places of all lives, where the first of the lines has that number
abbrev pub places_from : ℕ → List Line → List Place
places_from at [] = []
places_from at (line ∷ rest) = option_to_list (place_in at line) ++ places_from (at + 1) rest

-- by the chain, then by the slot, then by the line
abbrev pub place_cmp : Place → Place → Ordering
place_cmp a b =
    ordering_then (nat_cmp a.chain b.chain) (ordering_then (nat_cmp a.slot b.slot) (nat_cmp a.line b.line))

-- the same places, in that order
pub record IsArranged (places arranged : List Place) : Type 0 where
  pub same : IsPermutation places arranged
  pub order : IsSorted place_cmp arranged

-- a place is the first of its chain, or of its slot in it, behind the one before it
abbrev pub begins_chain : Option Place → Place → Bool
begins_chain None p = true
begins_chain (Some b) p = not (b.chain == p.chain)

abbrev pub begins_lane : Option Place → Place → Bool
begins_lane None p = true
begins_lane (Some b) p = not ((b.chain == p.chain) && (b.slot == p.slot))

-- the lane of a place, where the one before it has that lane; the first lane is 0
abbrev pub lane_after : Option Place → ℕ → Place → ℕ
lane_after None lane p = lane
lane_after (Some b) lane p = if begins_lane (Some b) p then lane + 1 else lane

abbrev pub bar_of : Option Place → ℕ → Place → Bar
bar_of before lane p =
    record { line = p.line; lane = lane; heads_lane = begins_lane before p; heads_chain = begins_chain before p }

-- a bar for each place
abbrev pub bars_from : Option Place → ℕ → List Place → List Bar
bars_from before lane [] = []
bars_from before lane (p ∷ rest) =
    bar_of before (lane_after before lane p) p ∷ bars_from (Some p) (lane_after before lane p) rest

-- how many lanes there are
abbrev pub lane_count : List Bar → ℕ
lane_count bars = count_by (λ (b : Bar). b.heads_lane) bars
