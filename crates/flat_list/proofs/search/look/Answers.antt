use Rattle.std.proofs.Common.{◌≡◌, ◌==◌, ℕ, List, Some, option_and_then, find, sym, ap, ◌∙◌}
use Rattle.std.specs.Option.{option_map_or}
use Rattle.sock_card.specs.declared.card.Card.{Card}
use Rattle.sock_card.specs.declared.card.Packet.{Packet}
use Rattle.chain_book.specs.Homes.{packet_hash}
use Rattle.flat_list.specs.Groups.{Group}
use Rattle.flat_list.specs.Look.{best, cards_of, chosen, group_of, look_among, member_of}
use Rattle.flat_list.proofs.search.look.Goals as goal

member_is : (packet : Packet) (seed : ℕ) (cards : List Card) (groups : List Group) (card : Card) (group : Group) → best packet cards ≡ Some card → group_of card.name groups ≡ Some group
    → look_among packet seed cards groups ≡ find (λ (c : Card). c.name == chosen (packet_hash packet seed) group) cards
member_is packet seed cards groups card group e f =
    ap (option_and_then (member_of (packet_hash packet seed) cards groups)) e
    ∙ ap (λ o. option_map_or (λ g. find (λ (c : Card). c.name == chosen (packet_hash packet seed) g) cards) o (Some card)) f

pub returns-in-Some : goal.returns-in-Some
returns-in-Some c =
    let cards : List Card = cards_of c.args.groups.now c.args.sockets.now in
    let first : best c.args.packet.now cards ≡ Some c.in_ok-card.card = sym c.best.ensures ∙ c.in_ok-card.was in
    let mine : group_of c.in_ok-card.card.name c.args.groups.now ≡ Some c.in-Some.group.now = sym (rw c.in-Some.is at c.group_of.ensures) in
    rw (c.card_named.ensures, c.chosen.ensures, c.packet_hash.ensures) (sym (member_is c.args.packet.now c.args.seed cards c.args.groups.now c.in_ok-card.card c.in-Some.group.now first mine))
