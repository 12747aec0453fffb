-- What a table asks of its values, and all their entries: our own.
use Rattle.std.specs.Prelude.{◌≡◌, ℕ, ◌+◌, List, [], ◌∷◌, ◌++◌, map}
use Rattle.list_words.specs.Lists.{Each}
use Rattle.turn_table.specs.Journals.{placed}
use Rattle.turn_table.specs.declared.note.Note.{Note}
use Rattle.turn_table.specs.declared.note.Placed.{Placed}

module _ {V E : Type 0} (notes : V → List (Note E)) where
  -- the value is made for its place among so many, is the replay of its journal, and each of its entries is one that
  -- its caller may make
  pub record Fits {H : Type 0} (is_replay : V → Type 0) (made_for : H → ℕ → ℕ → V → Type 0) (may_make : ℕ → E → Type 0)
      (home : H) (i n : ℕ) (x : V) : Type 0 where
    pub made : made_for home i n x
    pub replay : is_replay x
    pub may : Each (λ (y : Note E). may_make y.caller y.entry) (notes x)

-- each value is fit for its place of n; the first is at place i
abbrev pub AllFit : {V : Type 0} → (ℕ → ℕ → V → Type 0) → ℕ → ℕ → List V → Type 0
AllFit fits i n [] = Unit {0}
AllFit fits i n (x ∷ xs) = fits i n x × AllFit fits (i + 1) n xs

module _ {V E : Type 0} (notes : V → List (Note E)) where
  module _ (fits : ℕ → ℕ → V → Type 0) where
    -- each is fit for its place of n, and stands for no entry
    abbrev pub AllNew : ℕ → ℕ → List V → Type 0
    AllNew i n [] = Unit {0}
    AllNew i n (x ∷ xs) = fits i n x × (notes x ≡ []) × AllNew (i + 1) n xs

  -- all entries of these values, of which the first is at place i
  abbrev pub all_placed : ℕ → List V → List (Placed E)
  all_placed i [] = []
  all_placed i (x ∷ xs) = map (placed i) (notes x) ++ all_placed (i + 1) xs
