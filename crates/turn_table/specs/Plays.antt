-- What each step shows, as a relation of the step, the seat before, the number found and the seat after. Our own.
use Rattle.std.specs.Prelude.{◌≡◌, ◌≢◌, ℕ, ◌+◌, ◌-◌, ◌≤◌, List, [], ◌∷◌, map, length, Option, Some, None}
use Rattle.atomic_table.specs.Table.{Me, Step, rest}
use Rattle.turn_table.specs.Journals.{Ascends, number, by_caller, notes_at, AsFound, HasAllAt}
use Rattle.turn_table.specs.Views.{looked, taking, drawing, giving, added}
use Rattle.turn_table.specs.declared.note.Note.{Note}
use Rattle.turn_table.specs.declared.view.TurnView.{TurnView}

module _ {V E : Type 0} (notes : V → List (Note E)) where
  -- the new entries of the value in the hand
  abbrev pub in_hand : {H : Type 0} → TurnView E H → List (ℕ × Option V) → List (Note E)
  in_hand v [] = []
  in_hand v ((k, Some x) ∷ xs) = added v (notes x)
  in_hand v ((k, None) ∷ xs) = []

  abbrev pub Sat : Type 0 → Type 0
  Sat H = Me (Option V) (TurnView E H)

  module _ {H : Type 0} where
    pub record Took (fits : H → ℕ → ℕ → V → Type 0) (i slots : ℕ) (m n : Sat H) : Type 0 where
      pub value : V
      pub slot : n.1 ≡ (i, Some value) ∷ m.1
      pub suits : (home : H) → m.0.home ≡ home ∷ [] → fits home i slots value
      pub later : m.0.seen ≤ n.0.seen
      pub view : n.0 ≡ taking m.0 i n.0.seen (notes value)
      pub rising : Ascends n.0.seen (map number (notes value))
      pub own : by_caller m.0.caller (notes value) ≡ by_caller m.0.caller (notes_at i m.0.mine)
      pub sole : m.0.caller ≡ 0 → m.0.splits ≡ 0 → notes value ≡ notes_at i m.0.mine
      pub before : AsFound m.0.finds i (notes value)
      pub all : HasAllAt i m.0.mine (notes value)

    abbrev pub took : (H → ℕ → ℕ → V → Type 0) → Step (Option V) → Sat H → ℕ → Sat H → Type 0
    took fits st m r n = (r ≡ 0 → Took fits (st.word - 1) st.slots m n) × (r ≢ 0 → n ≡ m)

    abbrev pub gave : Step (Option V) → Sat H → ℕ → Sat H → Type 0
    gave st m r n = n ≡ (giving m.0 (st.word - 1) (in_hand m.0 m.1), rest m.1)

    abbrev pub drew : Step (Option V) → Sat H → ℕ → Sat H → Type 0
    drew st m r n = (m.0.seen ≤ r) × (n ≡ (drawing m.0 r, m.1))

    -- a pass with all parts learns how many entries there are
    abbrev pub saw : Step (Option V) → Sat H → ℕ → Sat H → Type 0
    saw st m r n = (m.0.seen ≤ r) × (n ≡ (looked m.0 r, m.1))
        × (m.0.parts ≡ 16384 → r ≡ length m.0.mine + length m.0.drawn)
