-- The texts of a record's lines and words, by their numbers: our own.
use Rattle.std.specs.Prelude.{ℕ, List, [], unwrap_or, slice_get}

-- the text of that number, from 0; there is nothing in one that is missing
abbrev pub text_at : List (List ℕ) → ℕ → List ℕ
text_at all n = unwrap_or (slice_get all n) []
