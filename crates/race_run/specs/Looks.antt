-- What a packet finds at tables that nobody else is at: our own. No public contract cites this file.
use Rattle.std.specs.Prelude.{◌≡◌, Option, None, Some}
use Rattle.capture_reader.specs.declared.packet.Item.{Item}
use Rattle.chain_book.specs.declared.book.PacketAnswer.{PacketAnswer}
use Rattle.chain_book.specs.declared.book.PacketAnswer.TheVariants as answers
use Rattle.flat_list.specs.Flat.{Flat}
use Rattle.flat_list.specs.Look.{look}
use Rattle.flat_list.specs.Sound.{IsSound}
use Rattle.flat_list.specs.declared.command.Reply.{Reply}
use Rattle.sock_card.specs.declared.card.Card.{Card}
use Rattle.sock_card.specs.declared.card.Packet.{Packet}
use Rattle.sock_card.specs.Words.{packed, unpacked}
use Rattle.sock_script.specs.Output.{item_reply}
use Rattle.sock_ops.specs.declared.tables.Tables.{Tables as Shared}
use Rattle.sock_ops.specs.declared.tables.Worker.{Worker}
use Rattle.sock_ops.specs.Stands.{chained}
use Rattle.table_model.specs.Means.{TablesMean, IsShape}
use Rattle.table_model.specs.Tables.{Tables}

-- whatever sound list the tables mean, the packet finds there what it finds in the list
abbrev pub Finds : Tables → Packet → Option Card → Type 0
Finds t packet found =
    (flat : Flat) → IsShape flat.header → IsSound flat → TablesMean t flat
    → found ≡ look packet flat.header.seed flat.sockets flat.groups

-- and so the reply to an item is the list's
abbrev pub AnswersItem : Tables → Item → Reply → Type 0
AnswersItem t item reply =
    (flat : Flat) → IsShape flat.header → IsSound flat → TablesMean t flat → reply ≡ item_reply flat item

-- what a lookup leaves of a worker: all that it did and may do, and all places of the chains
pub record Looked (t : Shared) (w u : Worker) : Type 0 where
  pub turns : u.turns ≡ w.turns
  pub book : (chained t u).view.book ≡ (chained t w).view.book
  pub next : (chained t u).next ≡ (chained t w).next
  pub parts : (chained t u).view.slot.parts ≡ (chained t w).view.slot.parts

-- the card of an answer, if it found one
abbrev pub card_of : PacketAnswer → Option Card
card_of (answers.Found card) = Some card
card_of _ = None

-- the card that was found is the one that its words say
abbrev pub IsTold : PacketAnswer → Type 0
IsTold (answers.Found card) = unpacked (packed card) ≡ card
IsTold _ = Unit {0}
