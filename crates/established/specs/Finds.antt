-- What the lookup of a packet's connected socket answers: __inet_lookup_established of net/ipv4/inet_hashtables.c.
use Rattle.std.specs.Prelude.{ℕ, ◌≤◌, [], ◌∷◌}
use Rattle.sock_card.specs.Words.{packed}
use Rattle.sock_card.specs.declared.card.Card.{Card}
use Rattle.sock_card.specs.declared.card.Packet.{Packet}
use Rattle.table_rule.specs.Plays.{Sat}
use Rattle.table_rule.specs.ReadersOk.{rank_of}
use Rattle.table_rule.specs.Words.{words_of}
use Rattle.table_rule.specs.Wholes.{Clears, FoundIn, StoppedIn}
use Rattle.table_rule.specs.declared.view.Layout.{Layout}
use Rattle.null_reader.specs.Looked.{stop_of}
use Rattle.null_reader.specs.declared.answers.LookEnd.{LookEnd}
use Rattle.null_reader.specs.declared.answers.LookEnd.TheVariants as answers
use Rattle.established.specs.Homes.{full_home}
use Rattle.established.specs.Stays.{Stays, Holds}

-- how well a card matches a packet, by its words
abbrev pub card_rank : Packet → Card → ℕ
card_rank packet card = rank_of packet (words_of (packed card))

-- The connected socket: what is held then, and which receipt says so
abbrev pub FindsFull : Layout → Packet → Sat → LookEnd → (from : ℕ) → Sat → Type 0
FindsFull layout packet m (answers.Found held card) from n =
    Holds m held.slot card n × FoundIn n.0.read from (words_of (packed card)) × (5 ≤ card_rank packet card)
FindsFull layout packet m answers.None from n = Stays m n × Clears n.0.read packet from (full_home layout packet) 5 0
FindsFull layout packet m (answers.Again bucket stop) from n =
    Stays m n × StoppedIn n.0.read from bucket (stop_of stop ∷ [])
