-- Cards of a sound list: the member of a group that a hash chooses has a card,
-- which matches as each of its mates does.
use Rattle.std.proofs.Common.{◌≡◌, ℕ, ◌^◌, ◌<◌, Bool, true, false, ◌&&◌, ◌==◌, cond, List, [], ◌∷◌, length, find, Option, Some, refl, sym, ap, ◌∙◌, inl, inr}
use Rattle.std.specs.List.{list_any}
use Rattle.std.specs.Option.{option_map}
use Rattle.std.proofs.lemmas.Bool.{and_parts, and_from, eqb-true, eq-eqb}
use Rattle.list_words.proofs.EachLemmas.{found_passes}
use Rattle.sock_card.specs.declared.card.Card.{Card}
use Rattle.sock_card.specs.declared.card.Kind.{Kind}
use Rattle.sock_card.specs.declared.card.Kind.TheVariants as kinds
use Rattle.sock_card.specs.declared.card.Packet.{Packet}
use Rattle.sock_card.specs.declared.owner.Owner.{Owner}
use Rattle.sock_card.specs.declared.owner.State.{State}
use Rattle.sock_card.specs.declared.owner.State.TheVariants as states
use Rattle.sock_card.specs.Conflict.{is_listening}
use Rattle.sock_card.specs.Rank.{rank, rank_as, listen_rank}
use Rattle.jhash_words.specs.Places.{scale}
use Rattle.flat_list.specs.declared.socket.Socket.{Socket}
use Rattle.flat_list.specs.Flat.{Flat}
use Rattle.flat_list.specs.Groups.{Group, has_member}
use Rattle.flat_list.specs.Look.{card_of, cards_of, extra_as, chosen}
use Rattle.flat_list.specs.Owned.{card_as}
use Rattle.flat_list.specs.Sockets.{kind_of, has_name}
use Rattle.flat_list.specs.Sound.{IsSound, IsGroupOf, GroupsAreOfMates, is_sharing, are_together}
use Rattle.chain_book.proofs.HashFits.{scale_below}
use Rattle.flat_list.proofs.CardsOf.{Says, of_socket, listening_kind, AtOneEnd, by_mates, grouped_shares}
use Rattle.list_words.proofs.Items.{In, each_in, pairs_in, any_item, any_in, found_in, place_in, comes_in}

a_kind : (st : State) → is_listening st ≡ true → kind_of st ≡ Some kinds.Listen
a_kind states.Listening h = refl
a_kind states.Full h = absurd (cc)
a_kind states.TimeWait h = absurd (cc)
a_kind states.Request h = absurd (cc)
a_kind states.Bound h = absurd (cc)
a_kind states.Unbound h = absurd (cc)

-- a listener's rank hangs on its end and device alone
rank_of : (a : Card) (packet : Packet) → a.kind ≡ kinds.Listen → rank a packet ≡ listen_rank a packet
unfolding rank
rank_of a packet h = ap (λ k. rank_as k a packet) h

at_end : Owner → Card
at_end a = card_as kinds.Listen a 0

listens_as : (a b : Owner) (packet : Packet) → AtOneEnd a b → listen_rank (at_end a) packet ≡ listen_rank (at_end b) packet
unfolding at_end
listens_as a b packet e =
    ap (λ n. listen_rank (record (at_end a) { local = n }) packet) e.addr
    ∙ ap (λ n. listen_rank (record (at_end a) { local = b.addr; lport = n }) packet) e.port
    ∙ ap (λ n. listen_rank (record (at_end a) { local = b.addr; lport = b.port; dev = n }) packet) e.dev
    ∙ ap (λ n. listen_rank (record (at_end a) { local = b.addr; lport = b.port; dev = b.dev; net = n }) packet) e.net

rank_by : (groups : List Group) (s : Socket) (c : Card) (packet : Packet) → Says groups s c → is_listening s.owner.state ≡ true → rank c packet ≡ listen_rank (at_end s.owner) packet
unfolding at_end
rank_by groups s c packet says h =
    rank_of c packet (listening_kind s.owner.state c.kind h says.kind)
    ∙ ap (λ (d : Card). listen_rank d packet) (sym says.is)

-- the card that a hash chooses among a group's members
pub record Chosen (cards : List Card) (packet : Packet) (name least : ℕ) : Type 0 where
  pub card : Card
  pub found : find (λ (c : Card). c.name == name) cards ≡ Some card
  pub within : In card cards
  pub alike : rank card packet ≡ least

found_if : {A : Type 0} (p : A → Bool) (y : A) (ys : List A) (b : Bool) → ((z : A) × (find p ys ≡ Some z)) → (z : A) × (cond b (Some y) (find p ys) ≡ Some z)
found_if p y ys true f = (y, refl)
found_if p y ys false f = f

-- where an item passes one is found
found_or : {A : Type 0} (p : A → Bool) (x : A) (xs : List A) → In x xs → p x ≡ true → (y : A) × (find p xs ≡ Some y)
found_or p x [] i h = absurd i
found_or p x (y ∷ ys) (inl e) h = (y, ap (λ (b : Bool). cond b (Some y) (find p ys)) (ap p e ∙ h))
found_or p x (y ∷ ys) (inr i) h = found_if p y ys (p y) (found_or p x ys i h)

module _ (flat : Flat) (sound : IsSound flat) where
  abbrev cards : List Card
  cards = cards_of flat.groups flat.sockets

  listens : (s : Socket) → is_sharing s ≡ true → is_listening s.owner.state ≡ true
  listens s h = (and_parts (is_listening s.owner.state) s.owner.reuseport h).0

  -- the cards of two of a group match alike
  mates_alike : (c d : Card) (g : Group) (packet : Packet) → In c cards → In d cards → In g flat.groups → has_member c.name g ≡ true → has_member d.name g ≡ true → rank d packet ≡ rank c packet
  mates_alike c d g packet i j k h l =
      let s = of_socket flat.groups flat.sockets c i in
      let t = of_socket flat.groups flat.sockets d j in
      let first : has_member s.socket.owner.name g ≡ true = ap (λ (n : ℕ). has_member n g) s.says.name ∙ h in
      let second : has_member t.socket.owner.name g ≡ true = ap (λ (n : ℕ). has_member n g) t.says.name ∙ l in
      let shared_s : is_sharing s.socket ≡ true = grouped_shares flat sound s.socket g s.within k first in
      let shared_t : is_sharing t.socket ≡ true = grouped_shares flat sound t.socket g t.within k second in
      let both : are_together flat.groups s.socket.owner.name t.socket.owner.name ≡ true =
      any_in (λ g. has_member s.socket.owner.name g && has_member t.socket.owner.name g) g flat.groups k (and_from _ _ first second) in
      let other : are_together flat.groups t.socket.owner.name s.socket.owner.name ≡ true =
      any_in (λ g. has_member t.socket.owner.name g && has_member s.socket.owner.name g) g flat.groups k (and_from _ _ second first) in
      let from_s = rank_by flat.groups s.socket c packet s.says (listens s.socket shared_s) in
      let from_t = rank_by flat.groups t.socket d packet t.says (listens t.socket shared_t) in
      elim (pairs_in (GroupsAreOfMates flat.groups) s.socket t.socket flat.sockets sound.grouped.mates s.within t.within) [
        | inl e ↦ from_t ∙ ap (λ (u : Socket). listen_rank (at_end u.owner) packet) (sym e) ∙ sym from_s
        | inr (inl r) ↦ from_t ∙ sym (listens_as s.socket.owner t.socket.owner packet (by_mates s.socket.owner t.socket (sym (r shared_s shared_t) ∙ both))) ∙ sym from_s
        | inr (inr r) ↦ from_t ∙ listens_as t.socket.owner s.socket.owner packet (by_mates t.socket.owner s.socket (sym (r shared_t shared_s) ∙ other)) ∙ sym from_s
      ]

  -- the socket of a member's name
  record Named (name : ℕ) : Type 0 where
    socket : Socket
    within : In socket flat.sockets
    name_is : socket.owner.name ≡ name

  named_in : (g : Group) (name : ℕ) → In g flat.groups → In name g.members → Named name
  named_in g name j i =
      let is : IsGroupOf flat.header.shape.bind flat.sockets g = each_in (IsGroupOf flat.header.shape.bind flat.sockets) g flat.groups sound.grouped.each j in
      let some = any_item (has_name name) flat.sockets (each_in (λ (k : ℕ). list_any (has_name k) flat.sockets ≡ true) name g.members is.known i) in
      record { socket = some.item; within = some.within; name_is = eqb-true some.item.owner.name name some.passes }

  member_has : (g : Group) (name : ℕ) → In name g.members → has_member name g ≡ true
  member_has g name i = any_in (λ (m : ℕ). m == name) name g.members i (eq-eqb name name refl)

  card_named : (g : Group) (name : ℕ) → In g flat.groups → In name g.members → (d : Card) × (find (λ (c : Card). c.name == name) cards ≡ Some d)
  card_named g name j i =
      let s = named_in g name j i in
      let member : has_member s.socket.owner.name g ≡ true = ap (λ (n : ℕ). has_member n g) s.name_is ∙ member_has g name i in
      let kind : kind_of s.socket.owner.state ≡ Some kinds.Listen = a_kind s.socket.owner.state (listens s.socket (grouped_shares flat sound s.socket g s.within j member)) in
      let made : Card = card_as kinds.Listen s.socket.owner (extra_as kinds.Listen flat.groups s.socket) in
      let is : card_of flat.groups s.socket ≡ Some made =
      ap (λ (o : Option Kind). option_map (λ (k : Kind). card_as k s.socket.owner (extra_as k flat.groups s.socket)) o) kind in
      found_or (λ (c : Card). c.name == name) made cards (comes_in (card_of flat.groups) s.socket made flat.sockets s.within is) (eq-eqb made.name name s.name_is)

  -- the member that a hash chooses has a card, which matches as that of each other member does
  pub chosen_card : (c : Card) (g : Group) (hash : ℕ) (packet : Packet) → hash < 2 ^ 32 → In c cards → In g flat.groups → has_member c.name g ≡ true → Chosen cards packet (chosen hash g) (rank c packet)
  chosen_card c g hash packet fits i j h =
      let is : IsGroupOf flat.header.shape.bind flat.sockets g = each_in (IsGroupOf flat.header.shape.bind flat.sockets) g flat.groups sound.grouped.each j in
      let at : In (chosen hash g) g.members = place_in g.members (scale hash (length g.members)) 0 (scale_below hash (length g.members) fits is.some) in
      let f = card_named g (chosen hash g) j at in
      let name : f.0.name ≡ chosen hash g = eqb-true f.0.name (chosen hash g) (found_passes (λ (c : Card). c.name == chosen hash g) cards f.0 f.1) in
      let within : In f.0 cards = found_in (λ (c : Card). c.name == chosen hash g) cards f.0 f.1 in
      record {
        card = f.0;
        found = f.1;
        within = within;
        alike = mates_alike c f.0 g packet i within j h (ap (λ (n : ℕ). has_member n g) name ∙ member_has g (chosen hash g) at);
      }
