-- In a sound list one card at most matches a packet best, or the best are of one group.
use Rattle.std.proofs.Common.{◌≡◌, ℕ, ◌<◌, subst, ◌==◌, Bool, true, false, not, ◌&&◌, ◌||◌, List, Some, refl, sym, ap, ◌∙◌, ◌⊎◌, inl, inr, arith, nat_lt}
use Rattle.std.proofs.lemmas.Bool.{both_ways, and_parts, eqb-true, ltb-true, eq-eqb, ne_eqb}
use Rattle.std.proofs.lemmas.Bool.Decides.{nat_tests}
use Rattle.std.specs.Option.{option_map}
use Rattle.list_words.proofs.PairsLemmas.{pairs_both, pairs_of_each, pairs_filter_map}
use Rattle.sock_card.specs.declared.card.Card.{Card}
use Rattle.sock_card.specs.declared.card.Kind.{Kind}
use Rattle.sock_card.specs.declared.card.Kind.TheVariants as kinds
use Rattle.sock_card.specs.declared.card.Packet.{Packet}
use Rattle.sock_card.specs.declared.owner.State.{State}
use Rattle.sock_card.specs.declared.owner.State.TheVariants as states
use Rattle.sock_card.specs.Conflict.{agree, overlap, meet, is_listening, is_time_wait, both_reuse_addr}
use Rattle.sock_card.specs.Rank.{rank, rank_as, listen_rank, has_tuple}
use Rattle.sock_card.proofs.Ranks.{HaveTuple, ListenTogether, one_rank}
use Rattle.flat_list.specs.declared.socket.Socket.{Socket}
use Rattle.flat_list.specs.Groups.{Group}
use Rattle.flat_list.specs.Look.{extra_as, card_of, cards_of, is_best, best_rank}
use Rattle.flat_list.specs.Owned.{card_as}
use Rattle.flat_list.specs.Sockets.{have_one_tuple, is_owner, kind_of}
use Rattle.flat_list.specs.Sound.{NamesDiffer, AgreeAsOwners, TuplesDiffer, holds_tuple, IsItsOwn, GroupsAreOfMates, are_together, FindsOneOrOneGroup}

-- a socket's card, with the socket's state
record HasCard (s : Socket) (card : Card) : Type 0 where
  made : card_as card.kind s.owner card.extra ≡ card
  listens : card.kind ≡ kinds.Listen → s.owner.state ≡ states.Listening
  holds : (card.kind ≡ kinds.Listen → ⊥) → holds_tuple s.owner.state ≡ true

same_card : (x y : Card) → Some x ≡ Some y → x ≡ y
same_card x y h = cc

kind_is : (s : Socket) (card : Card) (kind : Kind) (extra : ℕ) → Some (card_as kind s.owner extra) ≡ Some card → card.kind ≡ kind
kind_is s card kind extra h = sym (ap (λ (c : Card). c.kind) (same_card (card_as kind s.owner extra) card h))

made_of : (s : Socket) (card : Card) (kind : Kind) (extra : ℕ) → Some (card_as kind s.owner extra) ≡ Some card → card_as card.kind s.owner card.extra ≡ card
made_of s card kind extra h =
    subst (λ (c : Card). card_as c.kind s.owner c.extra ≡ c) (same_card (card_as kind s.owner extra) card h) refl

has_card : (groups : List Group) (s : Socket) (card : Card) (t : State) → s.owner.state ≡ t → option_map (λ (kind : Kind). card_as kind s.owner (extra_as kind groups s)) (kind_of t) ≡ Some card → HasCard s card
has_card groups s card states.Listening is h = record { made = made_of s card kinds.Listen (extra_as kinds.Listen groups s) h; listens = λ _. is; holds = λ no. absurd (no (kind_is s card kinds.Listen (extra_as kinds.Listen groups s) h)) }
has_card groups s card states.Full is h = record { made = made_of s card kinds.Full 0 h; listens = λ e. absurd (let k : card.kind ≡ kinds.Full = kind_is s card kinds.Full 0 h in cc); holds = λ no. ap holds_tuple is }
has_card groups s card states.TimeWait is h = record { made = made_of s card kinds.TimeWait s.stamp h; listens = λ e. absurd (let k : card.kind ≡ kinds.TimeWait = kind_is s card kinds.TimeWait s.stamp h in cc); holds = λ no. ap holds_tuple is }
has_card groups s card states.Request is h = record { made = made_of s card kinds.Request 0 h; listens = λ e. absurd (let k : card.kind ≡ kinds.Request = kind_is s card kinds.Request 0 h in cc); holds = λ no. ap holds_tuple is }
has_card groups s card _ is h = absurd (cc)

-- two sockets of a sound list
record Apart (groups : List Group) (x y : Socket) : Type 0 where
  names : NamesDiffer x y
  bound : AgreeAsOwners x y
  tuples : TuplesDiffer x y
  origins : IsItsOwn x × IsItsOwn y
  mates : GroupsAreOfMates groups x y

-- two listeners that overlap agree only by sharing their end, as sockets of one user o overlaps, ra both reuseaddr, l
-- and m who listens, p and q who reuses its port, e same user, v and w who waits, s same origin, t and u who was
-- chosen by connect
share_only : (ra p q e u : Bool) → (not true || ra && not (true && true) || p && q && (e || false || false) || false || false && u) ≡ true → (p ≡ true) × (q ≡ true) × (e ≡ true)
share_only ra true true true u h = (refl, refl, refl)
share_only true true true false u h = absurd (both_ways false refl h)
share_only false true true false u h = absurd (both_ways false refl h)
share_only true true false e u h = absurd (both_ways false refl h)
share_only false true false e u h = absurd (both_ways false refl h)
share_only true false q e u h = absurd (both_ways false refl h)
share_only false false q e u h = absurd (both_ways false refl h)

must_share : (o ra l m p q e v w s t u : Bool) → o ≡ true → l ≡ true → m ≡ true → v ≡ false → w ≡ false → s ≡ false → t ≡ false → (not o || ra && not (l && m) || p && q && (e || v || w) || s || t && u) ≡ true → (p ≡ true) × (q ≡ true) × (e ≡ true)
must_share o ra l m p q e v w s t u a b c d f g h k = share_only ra p q e u (rw (a, b, c, d, f, g, h) at k)

overlap_by_cards : (x y : Socket) (a b : Card) → HasCard x a → HasCard y b → ListenTogether a b → overlap x.owner y.owner ≡ true
unfolding overlap
overlap_by_cards x y a b mine other both =
    let port : x.owner.port ≡ y.owner.port = ap (λ (c : Card). c.lport) mine.made ∙ both.port ∙ sym (ap (λ (c : Card). c.lport) other.made) in
    let dev : meet x.owner.dev y.owner.dev ≡ true = rw (ap (λ (c : Card). c.dev) mine.made, ap (λ (c : Card). c.dev) other.made) both.dev in
    let addr : meet x.owner.addr y.owner.addr ≡ true = rw (ap (λ (c : Card). c.local) mine.made, ap (λ (c : Card). c.local) other.made) both.addr in
    let net : x.owner.net ≡ y.owner.net = ap (λ (c : Card). c.net) mine.made ∙ both.net ∙ sym (ap (λ (c : Card). c.net) other.made) in
    rw (eq-eqb x.owner.net y.owner.net net, eq-eqb x.owner.port y.owner.port port, dev, addr) refl

-- listeners of one rank stand at one address and device
one_device : (a b : Card) (packet : Packet) → 0 < listen_rank a packet → listen_rank a packet ≡ listen_rank b packet → a.dev ≡ b.dev
one_device a b packet h e = grind (arith, nat_tests)

one_address : (a b : Card) (packet : Packet) → 0 < listen_rank a packet → listen_rank a packet ≡ listen_rank b packet → a.local ≡ b.local
one_address a b packet h e = grind (arith, nat_tests)

rank_of_listener : (a : Card) (packet : Packet) (k : Kind) → k ≡ kinds.Listen → rank_as k a packet ≡ listen_rank a packet
rank_of_listener a packet k e = ap (λ t. rank_as t a packet) e

-- they are mates, and so in one group
listen_as_mates : (groups : List Group) (x y : Socket) (a b : Card) (packet : Packet) → Apart groups x y → HasCard x a → HasCard y b → ListenTogether a b → 0 < listen_rank a packet → listen_rank a packet ≡ listen_rank b packet → are_together groups x.owner.name y.owner.name ≡ true
unfolding agree
listen_as_mates groups x y a b packet apart mine other both matches same =
    let first : x.owner.state ≡ states.Listening = mine.listens both.first in
    let second : y.owner.state ≡ states.Listening = other.listens both.second in
    let own_x = apart.origins.0 (ap holds_tuple first) in
    let own_y = apart.origins.1 (ap holds_tuple second) in
    let other_origin : (x.owner.origin == y.owner.origin) ≡ false = ne_eqb _ _ (λ e. apart.names (sym own_x.0 ∙ e ∙ own_y.0)) in
    let share = must_share (overlap x.owner y.owner) (both_reuse_addr x.owner y.owner) (is_listening x.owner.state) (is_listening y.owner.state) x.owner.reuseport y.owner.reuseport
    (x.owner.uid == y.owner.uid) (is_time_wait x.owner.state) (is_time_wait y.owner.state) (x.owner.origin == y.owner.origin) x.owner.by_connect y.owner.by_connect
    (overlap_by_cards x y a b mine other both) (ap is_listening first) (ap is_listening second) (ap is_time_wait first) (ap is_time_wait second) other_origin own_x.1
    (apart.bound (ap is_owner first) (ap is_owner second)) in
    let port : x.owner.port ≡ y.owner.port = ap (λ (c : Card). c.lport) mine.made ∙ both.port ∙ sym (ap (λ (c : Card). c.lport) other.made) in
    let net : x.owner.net ≡ y.owner.net = ap (λ (c : Card). c.net) mine.made ∙ both.net ∙ sym (ap (λ (c : Card). c.net) other.made) in
    let dev : x.owner.dev ≡ y.owner.dev = ap (λ (c : Card). c.dev) mine.made ∙ one_device a b packet matches same ∙ sym (ap (λ (c : Card). c.dev) other.made) in
    let addr : x.owner.addr ≡ y.owner.addr = ap (λ (c : Card). c.local) mine.made ∙ one_address a b packet matches same ∙ sym (ap (λ (c : Card). c.local) other.made) in
    let listens_x : is_listening x.owner.state ≡ true = ap is_listening first in
    let listens_y : is_listening y.owner.state ≡ true = ap is_listening second in
    apart.mates (rw (listens_x, share.0) refl) (rw (listens_y, share.1) refl)
    ∙ rw (listens_y, share.0, share.1, share.2, eq-eqb x.owner.net y.owner.net net, eq-eqb x.owner.port y.owner.port port, eq-eqb x.owner.dev y.owner.dev dev, eq-eqb x.owner.addr y.owner.addr addr) refl

same_ends : (a b : Card) (packet : Packet) → has_tuple a packet ≡ true → has_tuple b packet ≡ true → ((a.net == b.net) && (a.local == b.local) && (a.lport == b.lport) && (a.remote == b.remote) && (a.rport == b.rport)) ≡ true
same_ends a b packet h g = grind (arith, nat_tests)

never_have_one_tuple : (groups : List Group) (x y : Socket) (a b : Card) (packet : Packet) → Apart groups x y → HasCard x a → HasCard y b → HaveTuple a b packet → ⊥
never_have_one_tuple groups x y a b packet apart mine other both =
    both_ways (have_one_tuple x.owner y.owner) (apart.tuples (mine.holds both.first) (other.holds both.second))
    (rw (
      ap (λ (c : Card). c.net) mine.made,
      ap (λ (c : Card). c.net) other.made,
      ap (λ (c : Card). c.local) mine.made,
      ap (λ (c : Card). c.local) other.made,
      ap (λ (c : Card). c.lport) mine.made,
      ap (λ (c : Card). c.lport) other.made,
      ap (λ (c : Card). c.remote) mine.made,
      ap (λ (c : Card). c.remote) other.made,
      ap (λ (c : Card). c.rport) mine.made,
      ap (λ (c : Card). c.rport) other.made,
    )
    (same_ends a b packet both.mine both.other))

-- they are best, and so of one rank
two_best : (groups : List Group) (x y : Socket) (a b : Card) (packet : Packet) → Apart groups x y → HasCard x a → HasCard y b → 0 < rank a packet → rank a packet ≡ rank b packet → HaveTuple a b packet ⊎ ListenTogether a b → are_together groups x.owner.name y.owner.name ≡ true
unfolding rank
two_best groups x y a b packet apart mine other matches same (inl both) = absurd (never_have_one_tuple groups x y a b packet apart mine other both)
two_best groups x y a b packet apart mine other matches same (inr both) =
    let rank_a : rank_as a.kind a packet ≡ listen_rank a packet = rank_of_listener a packet a.kind both.first in
    let rank_b : rank_as b.kind b packet ≡ listen_rank b packet = rank_of_listener b packet b.kind both.second in
    listen_as_mates groups x y a b packet apart mine other both (rw rank_a at matches) (rw (rank_a, rank_b) at same)

best_together : (groups : List Group) (packet : Packet) (cards : List Card) (x y : Socket) (a b : Card) → Apart groups x y → HasCard x a → HasCard y b → is_best packet cards a ≡ true → is_best packet cards b ≡ true → are_together groups a.name b.name ≡ true
best_together groups packet cards x y a b apart mine other best_a best_b =
    let first = and_parts (nat_lt 0 (rank a packet)) (rank a packet == best_rank packet cards) best_a in
    let second = and_parts (nat_lt 0 (rank b packet)) (rank b packet == best_rank packet cards) best_b in
    let same : rank a packet ≡ rank b packet = eqb-true _ _ first.1 ∙ sym (eqb-true _ _ second.1) in
    let matches = ltb-true _ _ first.0 in
    let name_a : x.owner.name ≡ a.name = ap (λ (c : Card). c.name) mine.made in
    let name_b : y.owner.name ≡ b.name = ap (λ (c : Card). c.name) other.made in
    ap (λ k. are_together groups k b.name) (sym name_a) ∙ ap (are_together groups x.owner.name) (sym name_b)
    ∙ two_best groups x y a b packet apart mine other matches same (one_rank a b packet matches same)

pub one_or_one_group : FindsOneOrOneGroup
one_or_one_group flat packet sound =
    let groups : List Group = flat.groups in
    let cards : List Card = cards_of groups flat.sockets in
    let Mates : Socket → Socket → Type 0 = GroupsAreOfMates groups in
    pairs_filter_map (λ x y. NamesDiffer x y × (AgreeAsOwners x y × (TuplesDiffer x y × ((IsItsOwn x × IsItsOwn y) × Mates x y))))
    (λ a b. is_best packet cards a ≡ true → is_best packet cards b ≡ true → are_together groups a.name b.name ≡ true) (card_of groups) flat.sockets
    (λ x y a b is at h. best_together groups packet cards x y a b (record { names = h.0; bound = h.1.0; tuples = h.1.1.0; origins = h.1.1.1.0; mates = h.1.1.1.1 })
    (has_card groups x a x.owner.state refl is) (has_card groups y b y.owner.state refl at))
    (pairs_both NamesDiffer (λ x y. AgreeAsOwners x y × (TuplesDiffer x y × ((IsItsOwn x × IsItsOwn y) × Mates x y))) flat.sockets sound.names
    (pairs_both AgreeAsOwners (λ x y. TuplesDiffer x y × ((IsItsOwn x × IsItsOwn y) × Mates x y)) flat.sockets sound.bound
    (pairs_both TuplesDiffer (λ x y. (IsItsOwn x × IsItsOwn y) × Mates x y) flat.sockets sound.tuples
    (pairs_both (λ x y. IsItsOwn x × IsItsOwn y) Mates flat.sockets (pairs_of_each IsItsOwn flat.sockets sound.origins) sound.grouped.mates))))
