-- A text's lines, and a line's words: our own rule.
use Rattle.std.specs.Prelude.{ℕ, Bool, ◌==◌, List, map}
use Rattle.std.specs.Borrow.{Bor}
use Rattle.std.specs.List.{slice_split}

-- byte 10
abbrev pub is_line_feed : ℕ → Bool
is_line_feed b = b == 10

-- byte 32
abbrev pub is_space : ℕ → Bool
is_space b = b == 32

-- the lines that end in a line feed, and what stands behind the last line feed: nothing, or a line without one
abbrev pub pieces_of : List ℕ → List (List ℕ)
pieces_of text = slice_split is_line_feed text

-- what stands between single spaces
abbrev pub words_of : List ℕ → List (List ℕ)
words_of line = slice_split is_space line

-- what references point to
abbrev pub texts : List (Bor (List ℕ)) → List (List ℕ)
texts words = map (λ w. w.now) words
