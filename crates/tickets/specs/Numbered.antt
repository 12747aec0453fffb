-- The rule of the table, which holds between any two steps of any passes: our own. Its one word is the count of all
-- draws.
use Rattle.std.specs.Prelude.{◌≡◌, ℕ, ◌+◌, ◌<◌, ◌≤◌, List, [], length, min, slice_index, nat_le, if◌then◌else◌}
use mathlib.Core.Option.{some}
use lib.ListN.{get_elem?}
use Rattle.atomic_table.specs.Table.{State}
use Rattle.list_words.specs.Lists.{total}
use Rattle.turn_table.specs.Journals.{numbers_below}
use Rattle.tickets.specs.Views.{all_parts}
use Rattle.tickets.specs.declared.view.TicketView.{TicketView}

-- what one pass knows is so
pub record Knows (n count : ℕ) (v : TicketView) : Type 0 where
  pub limit : 0 < v.parts → v.limit ≡ n
  pub seen : v.seen ≤ count
  pub idle : v.parts ≡ 0 → (v.drawn ≡ []) × (v.vain ≡ [])

-- the numbers that a pass drew in vain, and, while it may still draw, one for each of its parts
abbrev pub misses : ℕ → TicketView → ℕ
misses n v = length v.vain + (if nat_le v.seen n then v.parts else 0)

-- there are so many tickets, and so many draws were made
pub record AllDrawn (n count : ℕ) (views : List TicketView) : Type 0 where
  pub parts : total (λ (v : TicketView). v.parts) views ≡ all_parts
  -- each number below the count was drawn by one pass, once
  pub all : (f : ℕ → ℕ) → total (λ (v : TicketView). total f v.drawn + total f v.vain) views
      ≡ total f (numbers_below count)
  -- in vain exactly where it isn't below n
  pub drawn : (f : ℕ → ℕ) → total (λ (v : TicketView). total f v.drawn) views ≡ total f (numbers_below (min count n))
  -- so few in vain that the word never comes to its end
  pub few : total (misses n) views ≤ all_parts
  pub knows : (k : ℕ) (v : TicketView) → get_elem? views k ≡ some v → Knows n count v

pub record Numbered (n : ℕ) (s : State (Unit {0}) TicketView) : Type 0 where
  pub wide : length s.words ≡ 1
  pub short : n < 4294967296
  pub draws : AllDrawn n (slice_index s.words 0) s.views
