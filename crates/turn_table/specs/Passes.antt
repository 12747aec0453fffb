-- Words for what a pass is between two calls, and for what its table is: our own. A pass's knowledge is `known`, and
-- the other words are read off it.
use Rattle.std.specs.Prelude.{◌≡◌, ℕ, ◌+◌, ◌<◌, List, [], ◌∷◌, Option, None}
use Rattle.turn_table.specs.declared.note.Note.{Note}
use Rattle.turn_table.specs.declared.note.Placed.{Placed}
use Rattle.turn_table.specs.declared.note.Find.{Find}
use Rattle.turn_table.specs.declared.view.TurnView.{TurnView}
use Rattle.turn_table.specs.declared.pass.TurnPass.{TurnPass}
use Rattle.turn_table.specs.declared.pass.Turns.{Turns}

module _ {V E H : Type 0} where
  -- the number of values of a table
  abbrev pub places : Turns V E H → ℕ
  places t = t.table.shared.table_id.slots

  -- what its values have in common
  abbrev pub home : Turns V E H → H
  home t = t.table.shared.key

  abbrev pub known : TurnPass V E H → TurnView E H
  known p = p.seat.me.0

  -- what the pass says of itself when it runs
  abbrev pub IsTold : TurnPass V E H → Type 0
  IsTold p = (p.caller ≡ (known p).caller) × (p.splits ≡ (known p).splits) × (p.draws ≡ (known p).draws)

  -- a pass of this table. One with a part knows what the table's values have in common
  abbrev pub IsPassOf : Turns V E H → TurnPass V E H → Type 0
  IsPassOf t p =
      (p.seat.table_id ≡ t.table.shared.table_id) × (0 < (known p).parts → (known p).home ≡ home t ∷ []) × IsTold p

  -- what it holds of the table's slots: nothing, or that of the turn that it has
  abbrev pub hand : TurnPass V E H → List (ℕ × Option V)
  hand p = p.seat.me.1

  -- it has no turn
  abbrev pub IsFree : TurnPass V E H → Type 0
  IsFree p = (hand p ≡ []) × ((known p).at ≡ 0)

  -- it has the turn of this place, and the value is in hand
  abbrev pub HasTurn : TurnPass V E H → ℕ → Type 0
  HasTurn p i = (hand p ≡ (i, None) ∷ []) × ((known p).at ≡ i + 1)

  -- what it knows the values to have in common: once, if it has a part
  abbrev pub about : TurnPass V E H → List H
  about p = (known p).home

  -- its parts of the right to know the whole: all 16,384 where each other pass was joined to it
  abbrev pub parts : TurnPass V E H → ℕ
  parts p = (known p).parts

  -- its number as a caller: 0 of the first pass, and k of the k-th that was split off
  abbrev pub caller : TurnPass V E H → ℕ
  caller p = (known p).caller

  -- how many passes it has split off
  abbrev pub splits : TurnPass V E H → ℕ
  splits p = (known p).splits

  -- how many numbers it has drawn
  abbrev pub draws : TurnPass V E H → ℕ
  draws p = (known p).draws

  -- each number that it drew or found is below it, and so are those of the passes that it joined
  abbrev pub seen : TurnPass V E H → ℕ
  seen p = (known p).seen

  -- the answers of its `now`, in order, with those of the passes that it joined
  abbrev pub loads : TurnPass V E H → List ℕ
  loads p = (known p).loads

  -- what it gave, in its order, with what the passes that it joined gave
  abbrev pub given : TurnPass V E H → List (Placed E)
  given p = (known p).mine

  -- the journals that it found, each with its place and the count at that moment
  abbrev pub finds : TurnPass V E H → List (Find E)
  finds p = (known p).finds

  -- the journal of the place whose turn it has, as the turn began
  abbrev pub found : TurnPass V E H → List (Note E)
  found p = (known p).found

  -- the numbers that it has drawn in this turn, in order
  abbrev pub drawn : TurnPass V E H → List ℕ
  drawn p = (known p).drawn
