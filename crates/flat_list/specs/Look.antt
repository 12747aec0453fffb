-- Which socket a packet finds: of the hashed sockets one that matches best, or where a group of listeners does, the
-- member that the hash of the packet's four-tuple chooses (__inet_lookup of include/net/inet_hashtables.h,
-- inet_lhash2_lookup and inet_lookup_reuseport of net/ipv4/inet_hashtables.c, reuseport_select_sock of
-- net/core/sock_reuseport.c).
--
-- To be read from the end: `look` is what contracts cite, and each stands on those above it.
use Rattle.std.specs.Prelude.{ℕ, ◌+◌, Bool, ◌==◌, ◌&&◌, nat_lt, List, length, Option, Some, option_and_then, find, fold, map, slice_index}
use Rattle.std.specs.List.{filter_map}
use Rattle.std.specs.Option.{option_map, option_map_or}
use Rattle.std.proofs.Common.{max}
use Rattle.sock_card.specs.declared.card.Card.{Card}
use Rattle.sock_card.specs.declared.card.Kind.{Kind}
use Rattle.sock_card.specs.declared.card.Kind.TheVariants as kinds
use Rattle.sock_card.specs.declared.card.Packet.{Packet}
use Rattle.sock_card.specs.Rank.{rank}
use Rattle.jhash_words.specs.Places.{scale}
use Rattle.chain_book.specs.Homes.{packet_hash}
use Rattle.flat_list.specs.declared.socket.Socket.{Socket}
use Rattle.flat_list.specs.Groups.{Group, has_member}
use Rattle.flat_list.specs.Owned.{card_as}
use Rattle.flat_list.specs.Sockets.{kind_of}

-- the group of the socket of that name, if it is in one
abbrev pub group_of : ℕ → List Group → Option Group
group_of name groups = find (has_member name) groups

-- what a card of that kind says besides: a listener's group and 1, the stamp of a TIME_WAIT, else 0
abbrev pub extra_as : Kind → List Group → Socket → ℕ
extra_as kinds.Listen groups s = option_map_or (λ (g : Group). g.number + 1) (group_of s.owner.name groups) 0
extra_as kinds.TimeWait groups s = s.stamp
extra_as kinds.Full groups s = 0
extra_as kinds.Request groups s = 0

-- the card under which a socket is looked up
abbrev pub card_of : List Group → Socket → Option Card
card_of groups s = option_map (λ kind. card_as kind s.owner (extra_as kind groups s)) (kind_of s.owner.state)

-- the cards of the hashed sockets
abbrev pub cards_of : List Group → List Socket → List Card
cards_of groups sockets = filter_map (card_of groups) sockets

-- the greatest rank among the cards
abbrev pub best_rank : Packet → List Card → ℕ
best_rank packet cards = fold max 0 (map (λ card. rank card packet) cards)

-- the card matches, and none of the cards matches better
abbrev pub is_best : Packet → List Card → Card → Bool
is_best packet cards card = nat_lt 0 (rank card packet) && (rank card packet == best_rank packet cards)

-- the first of the cards that match best
abbrev pub best : Packet → List Card → Option Card
best packet cards = find (is_best packet cards) cards

-- the member at the place to which the hash is scaled
abbrev pub chosen : ℕ → Group → ℕ
chosen hash g = slice_index g.members (scale hash (length g.members))

-- of a card in a group, the card of the member that the hash chooses; else the card itself
abbrev pub member_of : ℕ → List Card → List Group → Card → Option Card
member_of hash cards groups card =
    option_map_or (λ g. find (λ (c : Card). c.name == chosen hash g) cards) (group_of card.name groups) (Some card)

abbrev pub look_among : Packet → ℕ → List Card → List Group → Option Card
look_among packet seed cards groups =
    option_and_then (member_of (packet_hash packet seed) cards groups) (best packet cards)

abbrev pub look : Packet → ℕ → List Socket → List Group → Option Card
look packet seed sockets groups = look_among packet seed (cards_of groups sockets) groups
