-- What the lookup of a packet answers and leaves: __inet_lookup of include/net/inet_hashtables.h.
--
-- The contract of `look_packet` cites `whole_to`, `Concluded` and `DrewAll`, and `ByOrder` at the end, from which the
-- rest is to be read upwards.
use Rattle.std.specs.Prelude.{◌≡◌, ℕ, ◌≤◌}
use Rattle.sock_card.specs.declared.card.Card.{Card}
use Rattle.sock_card.specs.declared.card.Packet.{Packet}
use Rattle.chain_book.specs.Homes.{packet_hash}
use Rattle.chain_book.specs.declared.book.PacketAnswer.{PacketAnswer}
use Rattle.chain_book.specs.declared.book.PacketAnswer.TheVariants as answers
use Rattle.chain_book.specs.declared.book.PassEnd.{PassEnd}
use Rattle.chain_book.specs.declared.book.PassEnd.TheVariants as stops
use Rattle.reuseport_group.specs.declared.pass.GroupPasses.{GroupPasses}
use Rattle.null_reader.specs.Looked.{LookedAs, words_end}
use Rattle.null_reader.specs.declared.answers.LookEnd.{LookEnd}
use Rattle.null_reader.specs.declared.answers.LookEnd.TheVariants as looks
use Rattle.null_reader.specs.declared.answers.PassEnd.{PassEnd as LookStop}
use Rattle.null_reader.specs.declared.answers.PassEnd.TheVariants as ends
use Rattle.established.specs.Homes.{full_home}
use Rattle.established.specs.Stays.{Stays}
use Rattle.listeners.specs.Finds.{InOrder}
use Rattle.table_rule.specs.Book.{marks}
use Rattle.table_rule.specs.LookCalls.{place_of}
use Rattle.table_rule.specs.Plays.{Sat, summing, with_kept, letting_go, drop_at}
use Rattle.table_rule.specs.Rule.{book_part}
use Rattle.table_rule.specs.Wholes.{whole_of}
use Rattle.table_rule.specs.declared.view.View.{View}
use Rattle.table_rule.specs.declared.view.Layout.{Layout}
use Rattle.table_rule.specs.declared.view.Whole.{Whole}
use Rattle.demux.specs.Chosen.{ByGroup}

-- the receipt of the answer
abbrev pub whole_to : Packet → (seed from to : ℕ) → PacketAnswer → Whole
whole_to packet seed from to end = record (whole_of packet seed from end) { to = to }

-- the counts are as before, and there is one receipt of a whole lookup more, this one
abbrev pub Concluded : Sat → Whole → Sat → Type 0
Concluded m c n = (k : Sat) × Stays m k × (n ≡ (summing k.0 c, k.1))

-- the pass drew all numbers below this one
abbrev pub DrewAll : View → (number : ℕ) → Type 0
DrewAll v number = marks (λ _. 1) (book_part v) ≡ number

-- how a pass ended, in a record's words
abbrev pub book_end : LookStop → PassEnd
book_end (ends.Foreign bucket) = stops.Foreign bucket
book_end (ends.Dead slot) = stops.Dead slot
book_end (ends.Changed slot) = stops.Changed slot
book_end (ends.Long links) = stops.Long links

-- The order of the lookups: the first that isn't None decides, and where it is Again its bucket and end are handed
-- on. What is said of one of them is said of what the pass knew as it began, and each begins with what the one before
-- left, and knows as much of the clock or more.

-- the count of the best is given back
abbrev pub LetsGo : Sat → (slot : ℕ) → Sat → Type 0
LetsGo k slot n = n ≡ (with_kept (letting_go k.0 slot) (drop_at (place_of slot k.0.read.kept) k.0.read.kept), k.1)

-- the receipt of the whole lookup is made
abbrev pub Sums : Sat → Whole → Sat → Type 0
Sums k c n = n ≡ (summing k.0 c, k.1)

-- after the lookup of a listener: of one that was found, its group's choice, while it is held
abbrev pub AfterListener :
    (slots groups : ℕ) → (seed : ℕ) → Packet → Sat → GroupPasses → LookEnd → PacketAnswer → GroupPasses → Whole → Sat
    → Type 0
AfterListener slots groups seed packet k p (looks.Found held best) end p' c n =
    (card : Card) × (chosen : Sat) × (put : Sat) × (end ≡ answers.Found card)
    × ByGroup slots groups packet (packet_hash packet seed) k best p card chosen p' × LetsGo chosen held.slot put
    × Sums put c n × (put.0.seen ≤ c.to)
AfterListener slots groups seed packet k p looks.None end p' c n =
    (end ≡ answers.None) × (p' ≡ p) × Sums k c n × (k.0.seen ≤ c.to)
AfterListener slots groups seed packet k p (looks.Again bucket stop) end p' c n =
    (end ≡ answers.Again bucket (book_end stop)) × (p' ≡ p) × Sums k c n × (k.0.seen ≤ c.to)

abbrev pub ByListener :
    (slots groups : ℕ) → Layout → Packet → (passes : ℕ) → Sat → GroupPasses → PacketAnswer → GroupPasses → Whole → Sat
    → Type 0
ByListener slots groups layout packet passes m p end p' c n =
    (look : LookEnd) × (from : ℕ) × (to : ℕ) × (k : Sat) × InOrder layout packet passes m look from to k
    × AfterListener slots groups layout.seed packet k p look end p' c n × (m.0.seen ≤ k.0.seen) × (m.0.seen ≤ from)

-- after the lookup of a connected socket
abbrev pub AfterFull :
    (slots groups : ℕ) → Layout → Packet → (passes : ℕ) → Sat → GroupPasses → LookEnd → PacketAnswer → GroupPasses
    → Whole → Sat → Type 0
AfterFull slots groups layout packet passes k p (looks.Found held card) end p' c n =
    (put : Sat) × (end ≡ answers.Found card) × (p' ≡ p) × LetsGo k held.slot put × Sums put c n × (put.0.seen ≤ c.to)
AfterFull slots groups layout packet passes k p looks.None end p' c n =
    ByListener slots groups layout packet passes k p end p' c n
AfterFull slots groups layout packet passes k p (looks.Again bucket stop) end p' c n =
    (end ≡ answers.Again bucket (book_end stop)) × (p' ≡ p) × Sums k c n × (k.0.seen ≤ c.to)

-- the whole lookup began as that of a connected socket did
abbrev pub ByOrder :
    (slots groups : ℕ) → Layout → Packet → (passes : ℕ) → Sat → GroupPasses → PacketAnswer → GroupPasses → (from : ℕ)
    → Whole → Sat → Type 0
ByOrder slots groups layout packet passes m p end p' from c n =
    (look : LookEnd) × (to : ℕ) × (k : Sat)
    × LookedAs (full_home layout packet) packet 5 passes m (words_end look) from to k
    × AfterFull slots groups layout packet passes k p look end p' c n × (m.0.seen ≤ k.0.seen) × (from ≤ to)
