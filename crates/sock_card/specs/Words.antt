-- A card as four words of a table keep it: our own rule, so that a lookup can see
-- by the first two words how well the card matches.
use Rattle.std.specs.Prelude.{ℕ, ◌+◌, ◌*◌, ◌/◌, ◌%◌, ◌^◌, ◌≡◌, ◌==◌, cond}
use Rattle.sock_card.specs.Rank.{rank}
use Rattle.sock_card.specs.declared.card.Kind.{Kind}
use Rattle.sock_card.specs.declared.card.Kind.TheVariants as kinds
use Rattle.sock_card.specs.declared.card.Card.{Card}
use Rattle.sock_card.specs.declared.card.Packet.{Packet}
use Rattle.sock_card.specs.declared.words.CardWords.{CardWords}

-- a kind's number; no other number is any kind's
abbrev pub number_of : Kind → ℕ
number_of kinds.Full = 1
number_of kinds.TimeWait = 2
number_of kinds.Listen = 3
number_of kinds.Request = 4

-- the kind of a number: Full where it is no kind's
abbrev pub kind_at : ℕ → Kind
kind_at n = cond (n == 2) kinds.TimeWait (cond (n == 3) kinds.Listen (cond (n == 4) kinds.Request kinds.Full))

-- both addresses; both ports, the device, the namespace and the kind; the name; the mark and what it says besides
abbrev pub packed : Card → CardWords
packed c = record {
  ends = c.local * 2 ^ 32 + c.remote;
  ports = c.lport * 2 ^ 48 + c.rport * 2 ^ 32 + c.dev * 2 ^ 16 + c.net * 2 ^ 4 + number_of c.kind;
  name = c.name;
  extra = c.mark * 2 ^ 32 + c.extra;
}

-- the card that these words say
abbrev pub unpacked : CardWords → Card
unpacked w = record {
  local = w.ends / 2 ^ 32;
  lport = w.ports / 2 ^ 48;
  remote = w.ends % 2 ^ 32;
  rport = w.ports / 2 ^ 32 % 2 ^ 16;
  dev = w.ports / 2 ^ 16 % 2 ^ 16;
  net = w.ports / 2 ^ 4 % 2 ^ 8;
  kind = kind_at (w.ports % 2 ^ 4);
  name = w.name;
  extra = w.extra % 2 ^ 32;
  mark = w.extra / 2 ^ 32;
}

-- a card that begins with these words
abbrev pub begun : ℕ → ℕ → Card
begun ends ports = unpacked (record { ends = ends; ports = ports; name = 0; extra = 0 })

-- the rank of a card that begins with these words: what else it says changes no rank
unfoldable pub word_rank : Packet → ℕ → ℕ → ℕ
word_rank packet ends ports = rank (begun ends ports) packet

-- the first two words of a card determine its rank
abbrev pub TwoWordsTell : Type 0
TwoWordsTell = (w : CardWords) (packet : Packet) → word_rank packet w.ends w.ports ≡ rank (unpacked w) packet
