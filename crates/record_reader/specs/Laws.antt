-- What follows from the definitions of records: our own laws.
use Rattle.std.specs.Prelude.{◌≡◌, ℕ, ◌^◌, ◌<◌, List, length}
use Rattle.std.specs.Global.{Global}
use Rattle.list_words.specs.Lists.{Each}
use Rattle.race_book.specs.Among.{Among}
use Rattle.race_book.specs.Listed.{StampsDiffer}
use Rattle.race_book.specs.Serial.{IsSerial}
use Rattle.book_audit.specs.declared.printed.Printed.{Printed}
use Rattle.book_audit.specs.Book.{book_of}
use Rattle.book_audit.specs.Looks.{IsLineExplained}
use Rattle.book_audit.specs.Findings.{CountsAll}
use Rattle.record_reader.specs.declared.line.Line.{Line}
use Rattle.record_reader.specs.declared.line.Name.{Name}
use Rattle.record_reader.specs.declared.audit.Verdict.{Verdict}
use Rattle.record_reader.specs.declared.audit.Verdict.TheVariants as verdicts
use Rattle.record_reader.specs.Names.{NameFits, name_text, number_in}
use Rattle.record_reader.specs.Record.{IsFirstOutside, IsRecord}
use Rattle.record_reader.specs.Verdicts.{IsVerdict, Reads}

-- a text of which a line is the first outside is no record
abbrev pub ExcludesRecords : Type 0
ExcludesRecords = (text : List ℕ) (n : ℕ) (lines : List Line) → IsFirstOutside text n → ¬ (IsRecord text lines)

-- one line at most is the first outside
abbrev pub HasOneFirst : Type 0
HasOneFirst = (text : List ℕ) (m n : ℕ) → IsFirstOutside text m → IsFirstOutside text n → m ≡ n

-- a text has the lines of one record at most
abbrev pub HasOneRecord : Type 0
HasOneRecord = (text : List ℕ) (a b : List Line) → IsRecord text a → IsRecord text b → a ≡ b

-- and one verdict at most
abbrev pub HasOneVerdict : Type 0
HasOneVerdict = (text : List ℕ) (a b : Verdict) → IsVerdict text a → IsVerdict text b → a ≡ b

-- a text of which no line is the first outside is a record: it can't be that it has the lines of none
abbrev pub HasSomeRecord : Type 0
HasSomeRecord =
    (text : List ℕ) → ((n : ℕ) → ¬ (IsFirstOutside text n)) → ¬ ((lines : List Line) → ¬ (IsRecord text lines))

-- and a record that memory has room for has a verdict
abbrev pub HasSomeVerdict : Type 0
HasSomeVerdict =
    (alloc : Global) (text : List ℕ) (lines : List Line) → length text < 2 ^ 63 → IsRecord text lines
    → (verdict : Verdict) × IsVerdict text verdict

-- what a race says that passes each test: its changes are serial, and no number of the clock stands in them twice,
-- each packet's line has its cause among them, and the clock counts them and the slots that were sought in vain
pub record IsSoundRace (p : Printed) : Type 0 where
  pub serial : IsSerial (Among (book_of p.lives.items)) p.shape p.seed
  pub once : StampsDiffer (book_of p.lives.items)
  pub explained : Each (IsLineExplained p.shape p.seed p.lives.items) p.packets.items
  pub counted : CountsAll p

-- a yes says so of the race that the text describes
abbrev pub YesIsSound : Type 0
YesIsSound =
    (text : List ℕ) (lives packets clock : ℕ) → IsVerdict text (verdicts.Yes lives packets clock)
    → (lines : List Line) × (p : Printed) × Reads text lines p × IsSoundRace p

-- names among others have one number exactly where they are printed alike
abbrev pub NumbersTellNames : Type 0
NumbersTellNames =
    (names : List Name) (a b : Name) → NameFits a → NameFits b → Among names a → Among names b
    → (number_in names a ≡ number_in names b → name_text a ≡ name_text b)
    × (name_text a ≡ name_text b → number_in names a ≡ number_in names b)
