-- Which card a packet finds, said of the cards alone: our own law.
use Rattle.std.specs.Prelude.{◌≡◌, ◌≤◌, List, MatchOption}
use Rattle.std.specs.List.{Contains}
use Rattle.list_words.specs.Lists.{Each}
use Rattle.sock_card.specs.declared.card.Card.{Card}
use Rattle.sock_card.specs.declared.card.Packet.{Packet}
use Rattle.sock_card.specs.Rank.{rank}
use Rattle.flat_list.specs.Flat.{Flat}
use Rattle.flat_list.specs.Look.{look, cards_of}
use Rattle.flat_list.specs.Sound.{IsSound}

-- it is one of the cards, it matches the packet, and none of them matches better
pub record IsBestOf (packet : Packet) (cards : List Card) (card : Card) : Type 0 where
  pub one : Contains cards card
  pub matches : 1 ≤ rank card packet
  pub best : Each (λ (other : Card). rank other packet ≤ rank card packet) cards

-- none of the cards matches the packet
abbrev pub NoneMatches : Packet → List Card → Type 0
NoneMatches packet cards = Each (λ (card : Card). rank card packet ≡ 0) cards

-- in a sound list a packet finds a best card, and nothing only where no card matches
abbrev pub FindsTheBest : Type 0
FindsTheBest =
    (flat : Flat) (packet : Packet) → IsSound flat
    → let cards : List Card = cards_of flat.groups flat.sockets in
    MatchOption (look packet flat.header.seed flat.sockets flat.groups) (NoneMatches packet cards)
    (IsBestOf packet cards)
