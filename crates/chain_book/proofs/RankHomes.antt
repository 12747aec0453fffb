-- In which chain a card of a rank belongs.
use Rattle.std.proofs.Common.{◌≡◌, ℕ, ◌≤◌, Bool, true, false, cond, not, ◌&&◌, ◌||◌, ◌==◌, arith, refl, ap, ◌∙◌}
use Rattle.std.proofs.lemmas.Bool.Decides.{nat_tests}
use Rattle.sock_card.specs.declared.card.Card.{Card}
use Rattle.sock_card.specs.declared.card.Packet.{Packet}
use Rattle.sock_card.specs.declared.card.Kind.{Kind}
use Rattle.sock_card.specs.declared.card.Kind.TheVariants as kinds
use Rattle.sock_card.specs.Rank.{rank, rank_as, has_tuple, takes_device, takes_port}
use Rattle.chain_book.specs.declared.shape.Shape.{Shape}
use Rattle.chain_book.specs.Homes.{home, home_as, tuple_home, listen_home, packet_home}

-- the rank of a listener, by what it is asked: port, device, address, no device of its own, any address
abbrev ranked : Bool → Bool → Bool → Bool → Bool → ℕ
ranked p d l n z = cond (not p || not d) 0 (cond l (cond n 3 4) (cond z (cond n 1 2) 0))

most_ranked : (p d l n z : Bool) → ranked p d l n z ≤ 4
most_ranked false d l n z = omega arith
most_ranked true false l n z = omega arith
most_ranked true true true true z = omega arith
most_ranked true true true false z = omega arith
most_ranked true true false true true = omega arith
most_ranked true true false false true = omega arith
most_ranked true true false n false = omega arith

high_ranked : (p d l n z : Bool) → 3 ≤ ranked p d l n z → (l ≡ true) × (p ≡ true)
high_ranked false d l n z h = absurd (omega arith)
high_ranked true false l n z h = absurd (omega arith)
high_ranked true true true n z h = (refl, refl)
high_ranked true true false true true h = absurd (omega arith)
high_ranked true true false false true h = absurd (omega arith)
high_ranked true true false n false h = absurd (omega arith)

low_ranked : (p d l n z : Bool) → 1 ≤ ranked p d l n z → ranked p d l n z ≤ 2 → (z ≡ true) × (p ≡ true)
low_ranked false d l n z h k = absurd (omega arith)
low_ranked true false l n z h k = absurd (omega arith)
low_ranked true true true true z h k = absurd (omega arith)
low_ranked true true true false z h k = absurd (omega arith)
low_ranked true true false n true h k = (refl, refl)
low_ranked true true false n false h k = absurd (omega arith)

same_number : (a b : ℕ) → (a == b) ≡ true → a ≡ b
same_number a b h = grind (arith, nat_tests)

same_port : (card : Card) (packet : Packet) → takes_port card packet ≡ true → card.lport ≡ packet.dport
same_port card packet h = grind (arith, nat_tests)

same_net : (card : Card) (packet : Packet) → takes_port card packet ≡ true → card.net ≡ packet.net
same_net card packet h = grind (arith, nat_tests)

-- the rank of a connected socket
abbrev five_if : Bool → ℕ
five_if b = cond b 5 0

only_five : (b : Bool) → 1 ≤ five_if b → (b ≡ true) × (5 ≤ five_if b)
only_five true h = (refl, omega arith)
only_five false h = absurd (omega arith)

parts : (a b : Bool) → (a && b) ≡ true → (a ≡ true) × (b ≡ true)
parts true b h = (refl, h)
parts false true h = (h, refl)
parts false false h = (h, h)

tuple_at : (shape : Shape) (seed : ℕ) (card : Card) (packet : Packet) → has_tuple card packet ≡ true → tuple_home shape seed card.local card.lport card.remote card.rport card.net ≡ packet_home shape seed packet
tuple_at shape seed card packet h =
    let four = parts ((card.net == packet.net) && (card.local == packet.dst) && (card.lport == packet.dport) && (card.remote == packet.src)) (card.rport == packet.sport) h in
    let three = parts ((card.net == packet.net) && (card.local == packet.dst) && (card.lport == packet.dport)) (card.remote == packet.src) four.0 in
    let two = parts ((card.net == packet.net) && (card.local == packet.dst)) (card.lport == packet.dport) three.0 in
    let one = parts (card.net == packet.net) (card.local == packet.dst) two.0 in
    ap (λ x. tuple_home shape seed x card.lport card.remote card.rport card.net) (same_number card.local packet.dst one.1)
    ∙ (ap (λ x. tuple_home shape seed packet.dst x card.remote card.rport card.net) (same_number card.lport packet.dport two.1)
    ∙ (ap (λ x. tuple_home shape seed packet.dst packet.dport x card.rport card.net) (same_number card.remote packet.src three.1)
    ∙ (ap (λ x. tuple_home shape seed packet.dst packet.dport packet.src x card.net) (same_number card.rport packet.sport four.1)
    ∙ ap (λ x. tuple_home shape seed packet.dst packet.dport packet.src packet.sport x) (same_number card.net packet.net one.0))))

whole_tuple : (card : Card) (packet : Packet) → 1 ≤ five_if (has_tuple card packet && takes_device card packet) → has_tuple card packet ≡ true
whole_tuple card packet h = (parts (has_tuple card packet) (takes_device card packet) (only_five (has_tuple card packet && takes_device card packet) h).0).0

five_as : (k : Kind) (shape : Shape) (seed : ℕ) (card : Card) (packet : Packet) → 5 ≤ rank_as k card packet → home_as k shape seed card ≡ packet_home shape seed packet
five_as kinds.Full shape seed card packet h = tuple_at shape seed card packet (whole_tuple card packet (omega (arith, h)))
five_as kinds.TimeWait shape seed card packet h = tuple_at shape seed card packet (whole_tuple card packet (omega (arith, h)))
five_as kinds.Listen shape seed card packet h =
    absurd (omega (arith, h, most_ranked (takes_port card packet) (takes_device card packet) (card.local == packet.dst) (card.dev == 0) (card.local == 0)))
five_as kinds.Request shape seed card packet h = tuple_at shape seed card packet (whole_tuple card packet (omega (arith, h)))

-- a card of rank 5 belongs in the chain of the packet's four-tuple
pub five_home : (shape : Shape) (seed : ℕ) (card : Card) (packet : Packet) → 5 ≤ rank card packet → home shape seed card ≡ packet_home shape seed packet
unfolding rank home
five_home shape seed card packet h = five_as card.kind shape seed card packet h

no_tuple : (b : Bool) → 1 ≤ five_if b → five_if b ≤ 4 → ⊥
no_tuple b h g = let five = (only_five b h).1 in omega (arith, five, g)

high_as : (k : Kind) (shape : Shape) (seed : ℕ) (card : Card) (packet : Packet) → 3 ≤ rank_as k card packet → rank_as k card packet ≤ 4 → home_as k shape seed card ≡ listen_home shape seed packet.dst packet.dport packet.net
high_as kinds.Full shape seed card packet h g = absurd (no_tuple (has_tuple card packet && takes_device card packet) (omega (arith, h)) g)
high_as kinds.TimeWait shape seed card packet h g = absurd (no_tuple (has_tuple card packet && takes_device card packet) (omega (arith, h)) g)
high_as kinds.Listen shape seed card packet h g =
    let both = high_ranked (takes_port card packet) (takes_device card packet) (card.local == packet.dst) (card.dev == 0) (card.local == 0) h in
    ap (λ a. listen_home shape seed a card.lport card.net) (same_number card.local packet.dst both.0)
    ∙ ap (λ p. listen_home shape seed packet.dst p card.net) (same_port card packet both.1)
    ∙ ap (λ n. listen_home shape seed packet.dst packet.dport n) (same_net card packet both.1)
high_as kinds.Request shape seed card packet h g = absurd (no_tuple (has_tuple card packet && takes_device card packet) (omega (arith, h)) g)

-- one of rank 3 or 4 in that of the packet's address
pub high_home : (shape : Shape) (seed : ℕ) (card : Card) (packet : Packet) → 3 ≤ rank card packet → rank card packet ≤ 4 → home shape seed card ≡ listen_home shape seed packet.dst packet.dport packet.net
unfolding rank home
high_home shape seed card packet h g = high_as card.kind shape seed card packet h g

low_as : (k : Kind) (shape : Shape) (seed : ℕ) (card : Card) (packet : Packet) → 1 ≤ rank_as k card packet → rank_as k card packet ≤ 2 → home_as k shape seed card ≡ listen_home shape seed 0 packet.dport packet.net
low_as kinds.Full shape seed card packet h g = absurd (no_tuple (has_tuple card packet && takes_device card packet) h (omega (arith, g)))
low_as kinds.TimeWait shape seed card packet h g = absurd (no_tuple (has_tuple card packet && takes_device card packet) h (omega (arith, g)))
low_as kinds.Listen shape seed card packet h g =
    let both = low_ranked (takes_port card packet) (takes_device card packet) (card.local == packet.dst) (card.dev == 0) (card.local == 0) h g in
    ap (λ a. listen_home shape seed a card.lport card.net) (same_number card.local 0 both.0)
    ∙ ap (λ p. listen_home shape seed 0 p card.net) (same_port card packet both.1)
    ∙ ap (λ n. listen_home shape seed 0 packet.dport n) (same_net card packet both.1)
low_as kinds.Request shape seed card packet h g = absurd (no_tuple (has_tuple card packet && takes_device card packet) h (omega (arith, g)))

-- one of rank 1 or 2 in that of 0.0.0.0
pub low_home : (shape : Shape) (seed : ℕ) (card : Card) (packet : Packet) → 1 ≤ rank card packet → rank card packet ≤ 2 → home shape seed card ≡ listen_home shape seed 0 packet.dport packet.net
unfolding rank home
low_home shape seed card packet h g = low_as card.kind shape seed card packet h g
