-- A place, or none, in one word: our own rule.
--
-- With the proof that the model of `MaybePlace` needs: `word_back`.
use Rattle.std.specs.Prelude.{◌≡◌, ℕ, Option, None, Some, zero, suc, refl}

-- the place that a word says: 0 is none, and each other word is one more than its place
abbrev pub place_of : ℕ → Option ℕ
place_of zero = None
place_of (suc place) = Some place

abbrev pub word_of : Option ℕ → ℕ
word_of None = 0
word_of (Some place) = suc place

-- a word is what its place is said by
pub word_back : (word : ℕ) → word_of (place_of word) ≡ word
word_back zero = refl
word_back (suc place) = refl
