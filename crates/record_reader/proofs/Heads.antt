-- Words that differ, and lists of words by their first.
use Rattle.std.proofs.Common.{◌≡◌, ℕ, ◌+◌, ◌*◌, ◌<◌, ◌^◌, List, [], ◌∷◌, false, decimal, ap, subst, eqb}
use Rattle.std.proofs.lemmas.Bool.{both_ways, eq-eqb}
use Rattle.std.proofs.lemmas.Fmt.{decimal_is_IsNumeral}
use Rattle.std.specs.Str.Parse.{AllDigits}

-- a word as one number
abbrev pub word_code : ℕ → List ℕ → ℕ
word_code n [] = n
word_code n (b ∷ bs) = word_code (n * 256 + b) bs

-- the first word, if there is one
abbrev pub head_word : List (List ℕ) → List ℕ
head_word [] = []
head_word (w ∷ ws) = w

-- and as one number
abbrev pub verb_code : List (List ℕ) → ℕ
verb_code words = word_code 0 (head_word words)

-- two numbers that are equal and not equal
pub never : (m n : ℕ) → m ≡ n → eqb m n ≡ false → ⊥
never m n e f = both_ways (eqb m n) f (eq-eqb m n e)

-- two words of different codes
pub apart : (v w : List ℕ) → v ≡ w → eqb (word_code 0 v) (word_code 0 w) ≡ false → ⊥
apart v w e f = never (word_code 0 v) (word_code 0 w) (ap (word_code 0) e) f

-- lists of words whose first have different codes
pub heads_apart : (vs ws : List (List ℕ)) → vs ≡ ws → eqb (verb_code vs) (verb_code ws) ≡ false → ⊥
heads_apart vs ws e f = never (verb_code vs) (verb_code ws) (ap verb_code e) f

-- a word that a number spells is of digits
pub all_digits : (n : ℕ) (w : List ℕ) → n < 2 ^ 64 → decimal n ≡ w → AllDigits 10 w
all_digits n w fits e = subst (AllDigits 10) e (decimal_is_IsNumeral n fits).0.1
