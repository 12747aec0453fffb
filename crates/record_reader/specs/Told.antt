-- What a record's lines say to the judge: our own.
--
-- To be read from the end: `Tells` is what contracts cite, and each stands on those above it.
use Rattle.std.specs.Prelude.{◌≡◌, ℕ, ◌-◌, Bool, false, List, count_by, Option, Some, None, slice_get, length}
use Rattle.std.specs.List.{filter_map}
use Rattle.book_audit.specs.declared.printed.PrintedLife.{PrintedLife}
use Rattle.book_audit.specs.declared.printed.PrintedAnswer.{PrintedAnswer}
use Rattle.book_audit.specs.declared.printed.PrintedAnswer.TheVariants as printed
use Rattle.book_audit.specs.declared.printed.PrintedLook.{PrintedLook}
use Rattle.book_audit.specs.declared.printed.PrintedPacket.{PrintedPacket}
use Rattle.book_audit.specs.declared.printed.PrintedPacket.TheVariants as packets
use Rattle.book_audit.specs.declared.printed.Printed.{Printed}
use Rattle.record_reader.specs.declared.line.Name.{Name}
use Rattle.record_reader.specs.declared.line.Answer.{Answer}
use Rattle.record_reader.specs.declared.line.Answer.TheVariants as answers
use Rattle.record_reader.specs.declared.line.LookLine.{LookLine}
use Rattle.record_reader.specs.declared.line.ItemLine.{ItemLine}
use Rattle.record_reader.specs.declared.line.ItemLine.TheVariants as items
use Rattle.record_reader.specs.declared.line.LifeLine.{LifeLine}
use Rattle.record_reader.specs.declared.line.Line.{Line}
use Rattle.record_reader.specs.declared.line.Line.TheVariants as lines
use Rattle.record_reader.specs.Names.{number_in}

-- the name that an answer contains
abbrev pub answer_name : Answer → Option Name
answer_name (answers.Found kind name) = Some name
answer_name _ = None

abbrev pub item_name : ItemLine → Option Name
item_name (items.Looked l) = answer_name l.answer
item_name _ = None

-- the name that a line contains
abbrev pub name_in : Line → Option Name
name_in (lines.Life l) = Some l.name
name_in (lines.Packet number item) = item_name item
name_in _ = None

-- all names of a record, line by line
abbrev pub names_of : List Line → List Name
names_of lines = filter_map name_in lines

-- `number`: the number that stands for a name
module _ (number : Name → ℕ) where
  abbrev pub life_told : LifeLine → PrintedLife
  life_told l =
      record {
        bucket = l.bucket;
        slot = l.slot;
        card = record l.card { name = number l.name };
        hash = l.hash;
        unhash = l.unhash;
      }

  abbrev pub answer_told : Answer → PrintedAnswer
  answer_told (answers.Found kind name) = printed.Found kind (number name)
  answer_told answers.None = printed.None
  answer_told (answers.Again bucket end) = printed.Again bucket end

  abbrev pub look_told : LookLine → PrintedLook
  look_told l = record { packet = l.packet; answer = answer_told l.answer; t0 = l.t0; t1 = l.t1 }

  abbrev pub item_told : ItemLine → PrintedPacket
  item_told (items.Looked l) = packets.Looked (look_told l)
  item_told _ = packets.Passed

  -- the life that a line describes, if it describes one
  abbrev pub life_in : Line → Option PrintedLife
  life_in (lines.Life l) = Some (life_told l)
  life_in _ = None

  -- and the packet
  abbrev pub packet_in : Line → Option PrintedPacket
  packet_in (lines.Packet place item) = Some (item_told item)
  packet_in _ = None

-- a command's line that says that a slot was sought in vain
abbrev pub is_vain : Line → Bool
is_vain (lines.Reply vain) = vain
is_vain _ = false

-- the race that the lines of a record describe: the shape and the seed by the second line, the clock by the last
pub record Tells (record_lines : List Line) (p : Printed) : Type 0 where
  pub shape : slice_get record_lines 1 ≡ Some (lines.Shape p.shape p.seed)
  pub lives : p.lives.items ≡ filter_map (life_in (number_in (names_of record_lines))) record_lines
  pub packets : p.packets.items ≡ filter_map (packet_in (number_in (names_of record_lines))) record_lines
  pub vain : p.vain ≡ count_by is_vain record_lines
  pub clock : slice_get record_lines (length record_lines - 1) ≡ Some (lines.Clock p.clock)
