-- The words past the first ones.
use Rattle.std.proofs.Common.{◌≡◌, ℕ, List, [], ◌∷◌, length, true, false, ◌==◌, arith, refl, sym}
use Rattle.std.specs.Borrow.{Bor}
use Rattle.std.proofs.lemmas.Bool.{false≢true, eqb-true}
use Rattle.record_reader.specs.Words.{texts}

-- the words past the first
pub past_one : (a x : List ℕ) (vs ws : List (List ℕ)) → a ∷ vs ≡ x ∷ ws → vs ≡ ws
past_one a x vs ws e = cc

-- and those past the second
pub past_two : (a b x y : List ℕ) (vs ws : List (List ℕ)) → a ∷ b ∷ vs ≡ x ∷ y ∷ ws → vs ≡ ws
past_two a b x y vs ws e = cc

-- the first and the second words
pub first_is : (a x : List ℕ) (vs ws : List (List ℕ)) → a ∷ vs ≡ x ∷ ws → a ≡ x
first_is a x vs ws e = cc

pub second_is : (a b x y : List ℕ) (vs ws : List (List ℕ)) → a ∷ b ∷ vs ≡ x ∷ y ∷ ws → b ≡ y
second_is a b x y vs ws e = cc

-- where the code sees no words, none are left
pub none_left : (words : List (Bor (List ℕ))) → true ≡ (length words == 0) → texts words ≡ []
none_left [] none = refl
none_left (w ∷ ws) none = absurd (omega (arith, eqb-true (length (w ∷ ws)) 0 (sym none)))

-- there can't be words left where none are
pub is_over : (words : List (Bor (List ℕ))) → [] ≡ texts words → false ≡ (length words == 0) → ⊥
is_over [] e some = false≢true some
is_over (w ∷ ws) e some = cc
