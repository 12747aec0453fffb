-- A text's lines, and a line's words: our own rule.
use Rattle.std.specs.Prelude.{ℕ, Bool, ◌==◌, ◌||◌, nat_lt, List, length, filter}
use Rattle.std.specs.List.{slice_split}
use Rattle.std.specs.Str.Lines.{strip_carriage_return}

-- byte 10
abbrev pub is_line_feed : ℕ → Bool
is_line_feed b = b == 10

-- a space, byte 32, or a tab, byte 9
abbrev pub is_blank : ℕ → Bool
is_blank b = (b == 32) || (b == 9)

-- what stands between the line feeds; where the last byte is one, the last line is empty
unfoldable pub lines_of : List ℕ → List (List ℕ)
lines_of text = slice_split is_line_feed text

-- one byte or more
abbrev pub is_word : List ℕ → Bool
is_word w = nat_lt 0 (length w)

-- the longest runs of bytes other than blanks, once one carriage return at the line's end is dropped
unfoldable pub words_of : List ℕ → List (List ℕ)
words_of line = filter is_word (slice_split is_blank (strip_carriage_return line))
