-- The lines of a text by their numbers, and the one before a line: our own.
use Rattle.std.specs.Prelude.{◌≡◌, ℕ, ◌-◌, ◌≤◌, List, [], unwrap_or, slice_get, Option, None, Some}
use Rattle.record_reader.specs.declared.line.Line.{Line}
use Rattle.record_reader.specs.Words.{words_of}
use Rattle.record_reader.specs.Forms.{HasForm}

-- the text of that number, from 0; there is nothing in one that is missing
abbrev pub text_at : List (List ℕ) → ℕ → List ℕ
text_at all n = unwrap_or (slice_get all n) []

-- the line before line n, counted from 1, of these texts; none stands before the first
abbrev pub IsBefore : List (List ℕ) → ℕ → Option Line → Type 0
IsBefore texts n None = n ≡ 1
IsBefore texts n (Some line) = (2 ≤ n) × HasForm (words_of (text_at texts (n - 2))) line
