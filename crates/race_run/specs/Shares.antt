-- How the workers of a race draw the items of a capture, by tickets: our own.
use Rattle.std.specs.Prelude.{◌≡◌, ℕ, ◌+◌, ◌≤◌, List, [], ◌∷◌, map, set, Result, Ok, Err, alloc_error, slice_index_or}
use Rattle.std.specs.List.{flat_map}
use Rattle.std.specs.declared.alloc.AllocError.{AllocError}
use Rattle.list_words.specs.Lists.{SameItems}
use Rattle.tickets.specs.Passes.{IsPassOf, IsOpen, HasMissed, parts, drawn}
use Rattle.tickets.specs.Views.{all_parts}
use Rattle.tickets.specs.declared.pass.TicketPass.{TicketPass}
use Rattle.tickets.specs.declared.pass.Tickets.{Tickets}
use Rattle.race_record.specs.declared.record.Looked.{Looked}
use Rattle.race_run.specs.declared.jobs.Job.{Job}
use Rattle.race_run.specs.declared.jobs.Outcome.{Outcome}
use Rattle.race_run.specs.declared.looker.Look.{Look}
use Rattle.race_run.specs.Lookers.{item_of}

-- the pass of a job, which has drawn nothing
pub record HasDrawnNothing (q : Tickets) (p : TicketPass) : Type 0 where
  pub table : IsPassOf q p
  pub still : IsOpen p
  pub part : parts p ≡ 1
  pub drawn : drawn p ≡ []

-- the first pass, which has drawn nothing, after it split off so many
pub record IsFirstPass (q : Tickets) (before : ℕ) (p : TicketPass) : Type 0 where
  pub table : IsPassOf q p
  pub still : IsOpen p
  pub parts : parts p + before ≡ all_parts
  pub drawn : drawn p ≡ []

-- the pass of a job that has ended: what it drew is what the job reports on, in that order
pub record HasTold (q : Tickets) (p : TicketPass) (told : List Look) : Type 0 where
  pub table : IsPassOf q p
  pub part : parts p ≡ 1
  pub drawn : drawn p ≡ map item_of told

-- the numbers of the items on which a job reports
abbrev pub items_in : Outcome → List ℕ
items_in o = map item_of o.told.items

-- the jobs behind the first n were joined to it: it missed what one of them missed
abbrev pub HasMissedAsThey : List (Result Job AllocError) → ℕ → TicketPass → Type 0
HasMissedAsThey done n p =
    (i : ℕ) (j : Job) → n ≤ i → slice_index_or done i (Err alloc_error) ≡ Ok j → HasMissed j.draws → HasMissed p

-- all were joined to it: what it drew is what these outcomes report on
pub record HasDrawnAll (q : Tickets) (done : List (Result Job AllocError)) (given : List Outcome) (p : TicketPass)
    : Type 0 where
  pub table : IsPassOf q p
  pub parts : parts p ≡ all_parts
  pub drawn : SameItems (drawn p) (flat_map items_in given)
  pub missed : HasMissedAsThey done 0 p

-- what stands at each place once these answers were put at their items' places, one after the other
abbrev pub put_all : List Look → List Looked → List Looked
put_all [] looked = looked
put_all (k ∷ told) looked = put_all told (set looked k.item k.looked)
