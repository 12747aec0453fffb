-- When a text is a race's record: our own. A record is a list of lines, each of which has its form and may follow the
-- one before it; the first is `race`, and the last is `clock`.
--
-- To be read from the end: `IsRecord` and `IsFirstOutside` are what others cite, and each stands on those above it.
use Rattle.std.specs.Prelude.{◌≡◌, ℕ, ◌+◌, ◌-◌, ◌<◌, ◌≤◌, ◌==◌, ◌&&◌, ◌||◌, nat_lt, nat_le, Bool, true, false, IsTrue, List, [], ◌∷◌, ◌++◌, length, take, slice_get, Option, Some, None}
use Rattle.record_reader.specs.declared.line.Line.{Line}
use Rattle.record_reader.specs.declared.line.Line.TheVariants as lines
use Rattle.record_reader.specs.Words.{pieces_of, words_of}
use Rattle.record_reader.specs.Forms.{HasForm}

-- the order of the kinds of line
abbrev pub rank : Line → ℕ
rank (lines.Race lookers passes) = 0
rank (lines.Shape shape seed) = 1
rank (lines.Reply vain) = 2
rank (lines.Journal bucket count) = 3
rank (lines.Life l) = 4
rank (lines.Packet number item) = 5
rank lines.Cut = 6
rank (lines.Clock clock) = 7

-- packets are numbered from 1
abbrev pub is_first : Line → Bool
is_first (lines.Packet number item) = number == 1
is_first line = true

-- a line of a later kind, the first of its kind: behind `race` stands `shape`, and behind that any other may come
-- next
abbrev pub is_next_kind : Line → Line → Bool
is_next_kind before line =
    nat_lt (rank before) (rank line) && is_first line && (nat_lt 0 (rank before) || (rank line == 1))

-- a line of the same kind: journals ascend by their buckets, lives don't descend by the number at which their hashes
-- begin, and each packet has the next number
abbrev pub is_same_kind : Line → Line → Bool
is_same_kind (lines.Reply vain) (lines.Reply again) = true
is_same_kind (lines.Journal bucket count) (lines.Journal next entries) = nat_lt bucket next
is_same_kind (lines.Life l) (lines.Life m) = nat_le l.hash.begin m.hash.begin
is_same_kind (lines.Packet number item) (lines.Packet next other) = next == number + 1
is_same_kind before line = false

-- the line may follow that one; with none before it, it is the first
abbrev pub may_follow : Option Line → Line → Bool
may_follow None line = rank line == 0
may_follow (Some before) line = is_same_kind before line || is_next_kind before line

-- each line may follow the one before it
abbrev pub AreInOrder : Option Line → List Line → Type 0
AreInOrder before [] = Unit {0}
AreInOrder before (line ∷ rest) = IsTrue (may_follow before line) × AreInOrder (Some line) rest

-- each text is that line
abbrev pub HaveForms : List (List ℕ) → List Line → Type 0
HaveForms [] [] = Unit {0}
HaveForms (text ∷ texts) (line ∷ rest) = HasForm (words_of text) line × HaveForms texts rest
HaveForms [] (line ∷ rest) = ⊥
HaveForms (text ∷ texts) [] = ⊥

-- these texts may be a record's first lines
pub record BeginsAs (texts : List (List ℕ)) (lines : List Line) : Type 0 where
  pub forms : HaveForms texts lines
  pub order : AreInOrder None lines

abbrev pub Begins : List (List ℕ) → Type 0
Begins texts = (lines : List Line) × BeginsAs texts lines

-- the text is a record of these lines: each ends in a line feed, behind the last of which nothing stands
pub record IsRecord (text : List ℕ) (record_lines : List Line) : Type 0 where
  pub clock : ℕ
  pub begins : BeginsAs (take (length record_lines) (pieces_of text)) record_lines
  pub whole : pieces_of text ≡ take (length record_lines) (pieces_of text) ++ [] ∷ []
  pub ends : slice_get record_lines (length record_lines - 1) ≡ Some (lines.Clock clock)

-- line n, counted from 1, is the first outside: those before it may begin a record, and with it they can't; or it is
-- the one after the last line feed, and the text is no record
pub record IsFirstOutside (text : List ℕ) (n : ℕ) : Type 0 where
  pub within : (1 ≤ n) × (n ≤ length (pieces_of text))
  pub before : Begins (take (n - 1) (pieces_of text))
  pub outside : n < length (pieces_of text) → ¬ (Begins (take n (pieces_of text)))
  pub unended : n ≡ length (pieces_of text) → ¬ ((lines : List Line) × IsRecord text lines)
