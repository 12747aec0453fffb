-- The forms of a record's lines, by their words: a format of our own. Numbers are spelled in decimal digits without a
-- leading zero, which is `decimal`, and ends as `end_text` says.
--
-- To be read from the end: `HasForm` says when words are a line. It asks `IsReply` of a command's line; of any other,
-- `line_words` says how it is spelled and `LineFits` what is in range.
use Rattle.std.specs.Prelude.{◌≡◌, ℕ, ◌^◌, ◌<◌, ◌≤◌, ◌==◌, ◌&&◌, ◌||◌, nat_lt, Bool, false, bytes_eq, IsTrue, List, [], ◌∷◌, ◌++◌, length, codes, decimal, Option, Some, None, if◌then◌else◌}
use Rattle.std.specs.List.{list_all, list_any}
use Rattle.inet_io.specs.Texts.{end_text}
use Rattle.sock_card.specs.declared.card.Card.{Card}
use Rattle.sock_card.specs.declared.card.Kind.{Kind}
use Rattle.sock_card.specs.declared.card.Kind.TheVariants as kinds
use Rattle.sock_card.specs.declared.card.Packet.{Packet}
use Rattle.chain_book.specs.declared.shape.Shape.{Shape}
use Rattle.chain_book.specs.Shapes.{ShapeFits}
use Rattle.book_audit.specs.declared.printed.Span.{Span}
use Rattle.book_audit.specs.declared.printed.PrintedEnd.{PrintedEnd}
use Rattle.book_audit.specs.declared.printed.PrintedEnd.TheVariants as ends
use Rattle.record_reader.specs.declared.line.Name.{Name}
use Rattle.record_reader.specs.declared.line.Answer.{Answer}
use Rattle.record_reader.specs.declared.line.Answer.TheVariants as answers
use Rattle.record_reader.specs.declared.line.LookLine.{LookLine}
use Rattle.record_reader.specs.declared.line.ItemLine.{ItemLine}
use Rattle.record_reader.specs.declared.line.ItemLine.TheVariants as items
use Rattle.record_reader.specs.declared.line.LifeLine.{LifeLine}
use Rattle.record_reader.specs.declared.line.Line.{Line}
use Rattle.record_reader.specs.declared.line.Line.TheVariants as lines
use Rattle.record_reader.specs.Names.{NameFits, name_text}

-- any number of 64 bits
abbrev pub Fits : ℕ → Type 0
Fits n = n < 2 ^ 64

abbrev pub race_words : ℕ → ℕ → List (List ℕ)
race_words lookers passes =
    codes "race" ∷ codes "lookers" ∷ decimal lookers ∷ codes "passes" ∷ decimal passes ∷ []

abbrev pub shape_words : Shape → ℕ → List (List ℕ)
shape_words shape seed =
    codes "shape" ∷ decimal shape.slots ∷ decimal shape.bind ∷ decimal shape.hash ∷ decimal shape.listen
    ∷ codes "seed" ∷ decimal seed ∷ []

-- the verbs of a script's commands, and `item`, which stands before each socket that a `dump` lists
abbrev pub verbs : List (List ℕ)
verbs =
    codes "socket" ∷ codes "bind" ∷ codes "listen" ∷ codes "connect" ∷ codes "accept" ∷ codes "syn" ∷ codes "ack"
    ∷ codes "close" ∷ codes "drop" ∷ codes "at" ∷ codes "reap" ∷ codes "look" ∷ codes "packets" ∷ codes "dump"
    ∷ codes "item" ∷ []

-- one byte or more, each above the space
abbrev pub is_plain : List ℕ → Bool
is_plain word = nat_lt 0 (length word) && list_all (nat_lt 32) word

-- such words say that a slot was sought in vain: they begin with `ENFILE`, or with `ok no-slot`
abbrev pub tells_vain : List (List ℕ) → Bool
tells_vain [] = false
tells_vain (word ∷ []) = bytes_eq word (codes "ENFILE")
tells_vain (word ∷ next ∷ rest) =
    bytes_eq word (codes "ENFILE") || bytes_eq word (codes "ok") && bytes_eq next (codes "no-slot")

-- the line of a command: its section, its verb, a label or another word, and what came of it
pub record IsReply (words : List (List ℕ)) (vain : Bool) : Type 0 where
  pub section : ℕ
  pub verb : List ℕ
  pub word : List ℕ
  pub rest : List (List ℕ)
  pub spelled : words ≡ decimal section ∷ verb ∷ word ∷ rest
  pub in_range : (1 ≤ section) × (section ≤ 64)
  pub known : IsTrue (list_any (bytes_eq verb) verbs)
  pub plain : IsTrue (list_all is_plain (word ∷ rest))
  pub told : vain ≡ tells_vain rest

abbrev pub kind_word : Kind → List ℕ
kind_word kinds.Full = codes "full"
kind_word kinds.TimeWait = codes "time-wait"
kind_word kinds.Listen = codes "listen"
kind_word kinds.Request = codes "request"

-- a network namespace that isn't the first one, 0
abbrev pub net_words : ℕ → List (List ℕ)
net_words net = if net == 0 then [] else codes "net" ∷ decimal net ∷ []

-- a device and a network namespace
abbrev pub dev_words : ℕ → ℕ → List (List ℕ)
dev_words dev net = codes "dev" ∷ decimal dev ∷ net_words net

-- what a line says of a card
abbrev pub card_words : Name → Card → List (List ℕ)
card_words name c =
    kind_word c.kind ∷ name_text name ∷ end_text c.local c.lport ∷ end_text c.remote c.rport ∷ dev_words c.dev c.net

abbrev pub unhash_words : Option Span → List (List ℕ)
unhash_words None = codes "unhash" ∷ codes "-" ∷ []
unhash_words (Some s) = codes "unhash" ∷ decimal s.begin ∷ decimal s.end ∷ []

-- when the card was hashed and unhashed
abbrev pub span_words : Span → Option Span → List (List ℕ)
span_words hash unhash = codes "hash" ∷ decimal hash.begin ∷ decimal hash.end ∷ unhash_words unhash

abbrev pub life_words : LifeLine → List (List ℕ)
life_words l =
    codes "life" ∷ decimal l.bucket ∷ decimal l.slot ∷ (card_words l.name l.card ++ span_words l.hash l.unhash)

-- addresses, ports, device and namespace are in range, and what the line doesn't give is 0
pub record CardFits (card : Card) : Type 0 where
  pub local : card.local < 2 ^ 32
  pub lport : card.lport < 2 ^ 16
  pub remote : card.remote < 2 ^ 32
  pub rport : card.rport < 2 ^ 16
  pub dev : card.dev < 2 ^ 16
  pub net : card.net < 16
  pub name : card.name ≡ 0
  pub extra : card.extra ≡ 0
  pub mark : card.mark ≡ 0

abbrev pub SpanFits : Span → Type 0
SpanFits s = Fits s.begin × Fits s.end

abbrev pub UnhashFits : Option Span → Type 0
UnhashFits None = Unit {0}
UnhashFits (Some s) = SpanFits s

pub record LifeFits (l : LifeLine) : Type 0 where
  pub bucket : Fits l.bucket
  pub slot : Fits l.slot
  pub name : NameFits l.name
  pub card : CardFits l.card
  pub hash : SpanFits l.hash
  pub unhash : UnhashFits l.unhash

-- how a lookup's last pass ended, and in which bucket it was
abbrev pub end_words : PrintedEnd → List (List ℕ) → List (List ℕ)
end_words (ends.Foreign b) more = codes "foreign" ∷ decimal b ∷ more
end_words (ends.Dead s) more = codes "dead" ∷ decimal s ∷ more
end_words (ends.Changed s) more = codes "changed" ∷ decimal s ∷ more
end_words (ends.Long n) more = codes "long" ∷ decimal n ∷ more

abbrev pub EndFits : PrintedEnd → Type 0
EndFits (ends.Foreign b) = Fits b
EndFits (ends.Dead s) = Fits s
EndFits (ends.Changed s) = Fits s
EndFits (ends.Long n) = Fits n

-- an answer, with more words behind it
abbrev pub answer_words : Answer → List (List ℕ) → List (List ℕ)
answer_words (answers.Found kind name) more = kind_word kind ∷ name_text name ∷ more
answer_words answers.None more = codes "none" ∷ more
answer_words (answers.Again bucket end) more = codes "again" ∷ end_words end (codes "in" ∷ decimal bucket ∷ more)

abbrev pub AnswerFits : Answer → Type 0
AnswerFits (answers.Found kind name) = NameFits name
AnswerFits answers.None = Unit {0}
AnswerFits (answers.Again bucket end) = Fits bucket × EndFits end

abbrev pub packet_words : Packet → List (List ℕ)
packet_words p =
    codes "from" ∷ end_text p.src p.sport ∷ codes "to" ∷ end_text p.dst p.dport ∷ dev_words p.dev p.net

pub record PacketFits (p : Packet) : Type 0 where
  pub src : p.src < 2 ^ 32
  pub sport : p.sport < 2 ^ 16
  pub dst : p.dst < 2 ^ 32
  pub dport : p.dport < 2 ^ 16
  pub dev : p.dev < 2 ^ 16
  pub net : p.net < 16

abbrev pub look_words : LookLine → List (List ℕ)
look_words l =
    answer_words l.answer
    (codes "t0" ∷ decimal l.t0 ∷ codes "t1" ∷ decimal l.t1 ∷ packet_words l.packet)

pub record LookFits (l : LookLine) : Type 0 where
  pub answer : AnswerFits l.answer
  pub t0 : Fits l.t0
  pub t1 : Fits l.t1
  pub packet : PacketFits l.packet

abbrev pub item_words : ItemLine → List (List ℕ)
item_words items.Skip = codes "skip" ∷ []
item_words items.Short = codes "short" ∷ []
item_words (items.Looked l) = look_words l

abbrev pub ItemFits : ItemLine → Type 0
ItemFits items.Skip = Unit {0}
ItemFits items.Short = Unit {0}
ItemFits (items.Looked l) = LookFits l

-- how a line is spelled, but for those of commands
abbrev pub line_words : Line → List (List ℕ)
line_words (lines.Race lookers passes) = race_words lookers passes
line_words (lines.Shape shape seed) = shape_words shape seed
line_words (lines.Reply vain) = []
line_words (lines.Journal bucket count) = codes "journal" ∷ decimal bucket ∷ decimal count ∷ []
line_words (lines.Life l) = life_words l
line_words (lines.Packet number item) = codes "packet" ∷ decimal number ∷ item_words item
line_words lines.Cut = codes "cut" ∷ []
line_words (lines.Clock clock) = codes "clock" ∷ decimal clock ∷ []

-- what stands in a line is in range
abbrev pub LineFits : Line → Type 0
LineFits (lines.Race lookers passes) = Fits lookers × Fits passes
LineFits (lines.Shape shape seed) = ShapeFits shape × (seed < 2 ^ 32)
LineFits (lines.Reply vain) = Unit {0}
LineFits (lines.Journal bucket count) = Fits bucket × Fits count
LineFits (lines.Life l) = LifeFits l
LineFits (lines.Packet number item) = Fits number × ItemFits item
LineFits lines.Cut = Unit {0}
LineFits (lines.Clock clock) = Fits clock

-- the words are that line
abbrev pub HasForm : List (List ℕ) → Line → Type 0
HasForm words (lines.Reply vain) = IsReply words vain
HasForm words line = (words ≡ line_words line) × LineFits line
