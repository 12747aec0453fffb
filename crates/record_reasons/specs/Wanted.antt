-- What is written of a line that keeps a text from being a record: our own.
--
-- To be read from the end: `outside_text` is the whole, of three lines, and each stands on those above it.
use Rattle.std.specs.Prelude.{ℕ, ◌==◌, nat_lt, List, ◌++◌, codes, decimal, Option, None, Some, if◌then◌else◌}
use Rattle.record_reader.specs.declared.line.Line.{Line}
use Rattle.record_reader.specs.declared.line.Line.TheVariants as lines
use Rattle.record_reader.specs.Record.{rank}
use Rattle.record_reasons.specs.declared.outside.Head.{Head}
use Rattle.record_reasons.specs.declared.outside.Head.TheVariants as heads
use Rattle.record_reasons.specs.declared.outside.Outside.{Outside}
use Rattle.record_reasons.specs.declared.outside.Outside.TheVariants as reasons

-- the form of the lines that begin so
unfoldable pub form_text : Head → List ℕ
form_text heads.Race = codes "it isn't of the form: race lookers N passes P"
form_text heads.Shape = codes "it isn't of the form: shape SLOTS BIND HASH LISTEN seed N"
form_text heads.Command = codes "it isn't of the form: N COMMAND WORD REPLY, of a command of section N, 1 to 64"
form_text heads.Journal = codes "it isn't of the form: journal BUCKET COUNT"
form_text heads.Life = codes "it isn't of the form: life CHAIN SLOT KIND n.S A:P B:Q dev D [net N] hash B0 E0 unhash B1 E1, or unhash -"
form_text heads.Packet = codes "it isn't of the form: packet K ANSWER t0 N0 t1 N1 from B:Q to A:P dev D [net N], or packet K skip, or packet K short"
form_text heads.Cut = codes "it isn't of the form: cut"
form_text heads.Clock = codes "it isn't of the form: clock C"
form_text heads.Other = codes "no line begins with its first word; words are separated by one space"

-- two lines of one kind
unfoldable pub same_kind_text : Line → List ℕ
same_kind_text (lines.Journal bucket count) = codes "its bucket isn't above that of the line before"
same_kind_text (lines.Life l) = codes "its hash begins below that of the line before"
same_kind_text (lines.Packet number item) = codes "its number isn't the next"
same_kind_text line = codes "there is one line of its kind"

-- a line that comes too early
unfoldable pub early_text : Line → List ℕ
early_text (lines.Race lookers passes) = codes "behind the line race stands the line shape"
early_text before = codes "the first packet has the number 1"

-- why a line can't stand behind that one
abbrev pub order_text : Option Line → Line → List ℕ
order_text None line = codes "the first line is race"
order_text (Some before) line =
    if rank before == rank line then same_kind_text line
    else if nat_lt (rank line) (rank before) then codes "lines of its kind stand above the line before"
    else early_text before

abbrev pub reason_text : Option Line → Outside → List ℕ
reason_text before reasons.Missing = codes "the text ends without the line clock"
reason_text before reasons.Unended = codes "no line feed stands behind it"
reason_text before (reasons.NoForm head) = form_text head
reason_text before (reasons.NoPlace line) = order_text before line

-- which lines may stand behind that one
unfoldable pub wanted_text : Option Line → List ℕ
wanted_text None = codes "race"
wanted_text (Some (lines.Race lookers passes)) = codes "shape"
wanted_text (Some (lines.Shape shape seed)) = codes "a command's line, journal, life, packet 1, cut or clock"
wanted_text (Some (lines.Reply vain)) = codes "a command's line, journal, life, packet 1, cut or clock"
wanted_text (Some (lines.Journal bucket count)) =
    codes "journal with a bucket above " ++ (decimal bucket ++ codes ", life, packet 1, cut or clock")
wanted_text (Some (lines.Life l)) =
    codes "life whose hash begins at " ++ (decimal l.hash.begin ++ codes " or above, packet 1, cut or clock")
wanted_text (Some (lines.Packet number item)) =
    codes "the packet that comes next after " ++ (decimal number ++ codes ", cut or clock")
wanted_text (Some lines.Cut) = codes "clock"
wanted_text (Some (lines.Clock clock)) = codes "nothing: the line clock is the last"

-- the line's number and its text
unfoldable pub bad_line : ℕ → List ℕ → List ℕ
bad_line n line = codes "bad record line " ++ decimal n ++ codes ": " ++ line ++ codes "\n"

unfoldable pub wanted_line : Option Line → List ℕ
wanted_line before = codes "there may stand: " ++ wanted_text before ++ codes "\n"

-- the line, the reason, and what may stand there
abbrev pub outside_text : ℕ → List ℕ → Option Line → Outside → List ℕ
outside_text n line before reason =
    bad_line n line ++ reason_text before reason ++ codes "\n" ++ wanted_line before
