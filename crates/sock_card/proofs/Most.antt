-- No rank is above 5, and what two words of a card say is enough to determine its rank.
use Rattle.std.proofs.Common.{◌≡◌, ℕ, ◌≤◌, Bool, true, false, if◌then◌else◌, not, ◌||◌, ◌&&◌, ◌==◌, arith, refl}
use Rattle.sock_card.specs.Rank.{has_tuple, takes_device, takes_port, rank, rank_as, tuple_rank, listen_rank}
use Rattle.sock_card.specs.Words.{word_rank, unpacked}
use Rattle.sock_card.specs.declared.card.Kind.{Kind}
use Rattle.sock_card.specs.declared.card.Kind.TheVariants as kinds
use Rattle.sock_card.specs.declared.card.Card.{Card}
use Rattle.sock_card.specs.declared.card.Packet.{Packet}
use Rattle.sock_card.specs.declared.words.CardWords.{CardWords}

either : (b : Bool) (x y : ℕ) → x ≤ 5 → y ≤ 5 → (if b then x else y) ≤ 5
either true x y h k = h
either false x y h k = k

tuple_most : (card : Card) (packet : Packet) → tuple_rank card packet ≤ 5
tuple_most card packet = either (has_tuple card packet && takes_device card packet) 5 0 (omega arith) (omega arith)

listen_most : (card : Card) (packet : Packet) → listen_rank card packet ≤ 5
listen_most card packet =
    let none : Bool = card.dev == 0 in
    let at : ℕ = if none then 3 else 4 in
    let any : ℕ = if none then 1 else 2 in
    let last : ℕ = if card.local == 0 then any else 0 in
    let rest : ℕ = if card.local == packet.dst then at else last in
    either (not (takes_port card packet) || not (takes_device card packet)) 0 rest (omega arith)
    (either (card.local == packet.dst) at last (either none 3 4 (omega arith) (omega arith))
    (either (card.local == 0) any 0 (either none 1 2 (omega arith) (omega arith)) (omega arith)))

as_most : (k : Kind) (card : Card) (packet : Packet) → rank_as k card packet ≤ 5
as_most kinds.Full card packet = tuple_most card packet
as_most kinds.TimeWait card packet = tuple_most card packet
as_most kinds.Listen card packet = listen_most card packet
as_most kinds.Request card packet = tuple_most card packet

pub rank_most : (card : Card) (packet : Packet) → rank card packet ≤ 5
unfolding rank
rank_most card packet = as_most card.kind card packet

pub word_rank_most : (packet : Packet) (ends ports : ℕ) → word_rank packet ends ports ≤ 5
unfolding word_rank
word_rank_most packet ends ports = rank_most (unpacked (record { ends = ends; ports = ports; name = 0; extra = 0 })) packet

two_as : (k : Kind) (w : CardWords) (packet : Packet) → rank_as k (unpacked (record w { name = 0; extra = 0 })) packet ≡ rank_as k (unpacked w) packet
two_as kinds.Full w packet = refl
two_as kinds.TimeWait w packet = refl
two_as kinds.Listen w packet = refl
two_as kinds.Request w packet = refl

pub two_words : (w : CardWords) (packet : Packet) → word_rank packet w.ends w.ports ≡ rank (unpacked w) packet
unfolding word_rank rank
two_words w packet = two_as (unpacked w).kind w packet
