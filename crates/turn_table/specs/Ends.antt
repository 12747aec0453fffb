-- What the last pass learns of a table's values: our own.
use Rattle.std.specs.Prelude.{◌≡◌, ℕ, List, map}
use mathlib.Core.Option.{some}
use lib.ListN.{get_elem?}
use Rattle.list_words.specs.Lists.{SameItems}
use Rattle.turn_table.specs.Journals.{Ascends, numbers_below, number, number_of, by_caller, notes_at, Begins}
use Rattle.turn_table.specs.Values.{all_placed}
use Rattle.turn_table.specs.declared.note.Note.{Note}
use Rattle.turn_table.specs.declared.note.Find.{Find}
use Rattle.turn_table.specs.declared.view.TurnView.{TurnView}

module _ {V E : Type 0} (notes : V → List (Note E)) where
  -- the journals hold what was given, each entry once
  abbrev pub HoldsWhatWasGiven : {H : Type 0} → TurnView E H → List V → Type 0
  HoldsWhatWasGiven v values = SameItems (all_placed notes 0 values) v.mine

  -- of each caller a journal has what it gave there, in its order
  abbrev pub IsInTheOrderOfEach : {H : Type 0} → TurnView E H → List V → Type 0
  IsInTheOrderOfEach v values =
      (i : ℕ) (x : V) → get_elem? values i ≡ some x → (caller : ℕ)
      → by_caller caller (notes x) ≡ by_caller caller (notes_at i v.mine)

  -- each journal that some pass found, at its place, is how that place's journal begins, and what came later has
  -- later numbers
  abbrev pub BeginsAsFound : {H : Type 0} → TurnView E H → List V → Type 0
  BeginsAsFound v values =
      (k : ℕ) (x : Find E) → get_elem? v.finds k ≡ some x → (value : V) × (get_elem? values x.place ≡ some value)
      × Begins x (notes value)

  -- in each journal the numbers ascend
  abbrev pub AllAscend : ℕ → List V → Type 0
  AllAscend count values = (i : ℕ) (x : V) → get_elem? values i ≡ some x → Ascends count (map number (notes x))

  -- the numbers of all entries are those below the count, each once
  abbrev pub NumbersAll : ℕ → List V → Type 0
  NumbersAll count values = SameItems (map number_of (all_placed notes 0 values)) (numbers_below count)
