-- Words for journals, the numbers of their notes, and what was found of them: our own.
--
-- To be read from the beginning.
use Rattle.std.specs.Prelude.{◌≡◌, ℕ, zero, suc, ◌<◌, ◌≤◌, ◌==◌, List, [], ◌∷◌, ◌++◌, map, filter}
use Rattle.std.specs.List.{Contains}
use mathlib.Core.Option.{some}
use lib.ListN.{get_elem?}
use Rattle.list_words.specs.Lists.{Each, Pairs}
use Rattle.turn_table.specs.declared.note.Note.{Note}
use Rattle.turn_table.specs.declared.note.Placed.{Placed}
use Rattle.turn_table.specs.declared.note.Find.{Find}

-- each number is below n, and they ascend
abbrev pub Ascends : ℕ → List ℕ → Type 0
Ascends n numbers = Each (λ x. x < n) numbers × Pairs (λ x y. x < y) numbers

-- the numbers below n, each once
abbrev pub numbers_below : ℕ → List ℕ
numbers_below zero = []
numbers_below (suc n) = numbers_below n ++ n ∷ []

module _ {E : Type 0} where
  abbrev pub number : Note E → ℕ
  number x = x.number

  -- the number of an entry that stands at a place
  abbrev pub number_of : Placed E → ℕ
  number_of p = p.note.number

  abbrev pub placed : ℕ → Note E → Placed E
  placed i x = record { place = i; note = x }

  -- of a journal, the entries of one caller, in order
  abbrev pub by_caller : ℕ → List (Note E) → List (Note E)
  by_caller caller notes = filter (λ (x : Note E). x.caller == caller) notes

  -- of entries with their places, those of one place, in order
  abbrev pub notes_at : ℕ → List (Placed E) → List (Note E)
  notes_at i entries = map (λ (p : Placed E). p.note) (filter (λ (p : Placed E). p.place == i) entries)

  -- each entry of these that was given at the place stands in the journal
  abbrev pub HasAllAt : ℕ → List (Placed E) → List (Note E) → Type 0
  HasAllAt i given journal = Each (Contains journal) (notes_at i given)

  -- the journal begins as it was found, and what came later has later numbers: so what was found had each entry with
  -- a number below `since`
  pub record Begins (x : Find E) (journal : List (Note E)) : Type 0 where
    pub more : List (Note E)
    pub is : journal ≡ x.notes ++ more
    pub late : Each (λ (y : Note E). x.since ≤ y.number) more

  -- each find of this place begins the journal
  abbrev pub AsFound : List (Find E) → ℕ → List (Note E) → Type 0
  AsFound finds i journal = (k : ℕ) (x : Find E) → get_elem? finds k ≡ some x → x.place ≡ i → Begins x journal
