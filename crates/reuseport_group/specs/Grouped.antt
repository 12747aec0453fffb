-- The rule of the table, which holds between any two steps of any passes. Our own.
use Rattle.std.specs.Prelude.{◌≡◌, ℕ, ◌+◌, ◌*◌, ◌<◌, ◌≤◌, true, List, [], length, slice_index}
use mathlib.Core.Option.{some}
use lib.ListN.{get_elem?}
use Rattle.atomic_table.specs.Table.{State}
use Rattle.list_words.specs.Lists.{Each, total}
use Rattle.reuseport_group.specs.Words.{most, at, latest, Ordered, NotBefore, AllOccur}
use Rattle.reuseport_group.specs.Views.{all_parts}
use Rattle.reuseport_group.specs.declared.view.Stored.{Stored}
use Rattle.reuseport_group.specs.declared.view.GroupView.{GroupView}

-- what some passes know is so, when this was stored
pub record Knows (history : List Stored) (v : GroupView) : Type 0 where
  pub later : Each (NotBefore history) v.moments
  pub own : AllOccur v.mine history
  pub idle : v.parts ≡ 0 → v.mine ≡ []

pub record Grouped (n : ℕ) (s : State (Unit {0}) GroupView) : Type 0 where
  -- all that was stored, newest first
  pub history : List Stored
  -- one word is of no group: a step of split or join loads some word, also where there is no group
  pub wide : length s.words ≡ (1 + most) * n + 1
  pub words : (group j : ℕ) → group < n → j ≤ most → slice_index s.words (at group j) ≡ latest group j history
  pub short : Each (λ (e : Stored). length e.members ≤ most) history
  pub ordered : Ordered history
  pub parts : total (λ (v : GroupView). v.parts) s.views ≡ all_parts
  -- each store is one of some passes, and each once
  pub balance : (f : Stored → ℕ) → total f history ≡ total (λ (v : GroupView). total f v.mine) s.views
  pub knows : (k : ℕ) (v : GroupView) → get_elem? s.views k ≡ some v → Knows history v
  pub sole : (k : ℕ) (v : GroupView) → get_elem? s.views k ≡ some v → v.sole ≡ true → (length s.views ≡ 1)
      × (history ≡ v.mine)
