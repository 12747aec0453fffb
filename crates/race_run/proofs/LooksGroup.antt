-- The member that a packet's hash chooses of a group's words is that of the list's group.
use Rattle.std.proofs.Common.{◌≡◌, ℕ, ◌+◌, ◌*◌, ◌/◌, ◌%◌, ◌^◌, ◌<◌, ◌≤◌, true, ◌&&◌, ◌==◌, List, [], ◌∷◌, length, get_or, find, Option, Some, None, refl, sym, ap, ◌∙◌, subst, inl, inr, arith}
use Rattle.std.specs.List.{list_any}
use Rattle.std.specs.Option.{option_map_or}
use Rattle.std.proofs.lemmas.Bool.{and_parts, and_from, eqb-true, eq-eqb}
use Rattle.std.proofs.lemmas.List.{length-map, get_or-map}
use Rattle.list_words.specs.Lists.{Each}
use Rattle.list_words.proofs.EachLemmas.{each_map, some_same, found_passes}
use Rattle.sock_card.specs.declared.card.Card.{Card}
use Rattle.sock_card.specs.declared.card.Kind.TheVariants as kinds
use Rattle.sock_card.specs.declared.card.Packet.{Packet}
use Rattle.sock_card.specs.declared.owner.Owner.{Owner}
use Rattle.sock_card.specs.Conflict.{is_listening}
use Rattle.sock_card.specs.Rank.{rank, rank_as, listen_rank}
use Rattle.jhash_words.specs.Places.{scale}
use Rattle.reuseport_group.specs.Member.{slot_of, name_of, AreMembers}
use Rattle.reuseport_group.specs.Pick.{pick}
use Rattle.reuseport_group.specs.Pick as choices
use Rattle.bind_buckets.specs.BindHash.{untouched}
use Rattle.bind_buckets.specs.Journal.{Standing}
use Rattle.bind_buckets.specs.OwnerStep.{members_at}
use Rattle.chain_book.specs.declared.outcome.Hashed.{Hashed}
use Rattle.chain_book.specs.Chains.{row_at}
use Rattle.chain_book.specs.Homes.{packet_hash}
use Rattle.flat_list.specs.declared.socket.Socket.{Socket}
use Rattle.flat_list.specs.Flat.{Flat}
use Rattle.flat_list.specs.Groups.{Group, has_member}
use Rattle.flat_list.specs.Look.{chosen, member_of, group_of}
use Rattle.flat_list.specs.Sound.{IsSound, IsGroupOf, GroupsAreOfMates, are_together}
use Rattle.table_model.specs.Tables.{Tables}
use Rattle.table_model.specs.Means.{TablesMean, IsShape, names_in, members_of, stands_in_some}
use Rattle.table_model.specs.Means as means
use Rattle.table_model.proofs.parts.GroupPlaces.{found_number}
use Rattle.table_model.proofs.parts.GroupPlaces as places
use Rattle.table_model.proofs.parts.Groups.{read_map}
use Rattle.list_words.proofs.Items.{In, each_in, in_each, pairs_in, found_in, finds, any_in, place_in}
use Rattle.chain_book.proofs.HashFits.{hash_fits, scale_below}
use Rattle.flat_list.proofs.CardsOf.{OfSocket, of_socket, listening_kind, AtOneEnd, by_mates, grouped_shares}
use Rattle.sock_ops.specs.Groups.{shown, words_in}
use Rattle.race_run.proofs.CardsOf.{cards, HasNumber, same_name}
use Rattle.race_run.proofs.CardsBest.{named_group}
use Rattle.race_run.proofs.CardsStand.{in_row, stands_of}

pub some_pick : (ms : List ℕ) (hash : ℕ) → 1 ≤ length ms → pick ms hash ≡ Some (choices.chosen ms hash)
some_pick [] hash h = absurd (omega arith)
some_pick (m ∷ ms) hash h = refl

-- what is shown of a member is never 0, and has its slot, where that is below 2 ^ 32 - 1, and the lower half of its name
shown_some : (m : ℕ) → 0 < shown m
shown_some m = omega arith

shown_slot : (m : ℕ) → m / 2 ^ 64 + 1 < 2 ^ 32 → slot_of (shown m) ≡ m / 2 ^ 64
shown_slot m fits = omega (arith, fits)

shown_name : (m : ℕ) → name_of (shown m) ≡ m % 2 ^ 64 % 2 ^ 32
shown_name m = omega arith

other_way : (a b : Owner) → AtOneEnd a b → AtOneEnd b a
other_way a b e = record { net = sym e.net; addr = sym e.addr; port = sym e.port; dev = sym e.dev }

-- a listener at that end and device of a namespace
abbrev listener_at : ℕ → ℕ → ℕ → ℕ → Card
listener_at local lport dev net = record {
  local = local;
  lport = lport;
  remote = 0;
  rport = 0;
  dev = dev;
  net = net;
  kind = kinds.Listen;
  name = 0;
  extra = 0;
  mark = 0;
}

-- listeners at one end and device of a namespace match alike
rank_alike : (a b : Card) (packet : Packet) → a.kind ≡ kinds.Listen → b.kind ≡ kinds.Listen → a.local ≡ b.local → a.lport ≡ b.lport → a.dev ≡ b.dev → a.net ≡ b.net → rank a packet ≡ rank b packet
unfolding rank
rank_alike a b packet h g local lport dev net =
    ap (λ k. rank_as k a packet) h
    ∙ (ap (λ n. listen_rank (listener_at n a.lport a.dev a.net) packet) local
    ∙ (ap (λ n. listen_rank (listener_at b.local n a.dev a.net) packet) lport
    ∙ (ap (λ n. listen_rank (listener_at b.local b.lport n a.net) packet) dev
    ∙ (ap (λ n. listen_rank (listener_at b.local b.lport b.dev n) packet) net
    ∙ ap (λ k. rank_as k b packet) (sym g)))))

-- the group whose names these are
record ListedAs (o : Option Group) (names : List ℕ) : Type 0 where
  group : Group
  is : o ≡ Some group
  members : names ≡ group.members

listed_as : (o : Option Group) (names : List ℕ) → names ≡ places.members_in o → 1 ≤ length names → ListedAs o names
listed_as None names e some = absurd (omega (arith, some, ap (length {A = ℕ}) e))
listed_as (Some g) names e some = record { group = g; is = refl; members = e }

module _ (t : Tables) (flat : Flat) (shape : IsShape flat.header) (sound : IsSound flat) (mean : TablesMean t flat) where
  abbrev all : List Card
  all = cards flat sound

  -- two sockets of one group stand at one end
  at_one_end : (r s : Socket) (g : Group) → In r flat.sockets → In s flat.sockets → In g flat.groups → has_member r.owner.name g ≡ true → has_member s.owner.name g ≡ true → AtOneEnd r.owner s.owner
  at_one_end r s g i j k h e =
      let share_r = grouped_shares flat sound r g i k h in
      let share_s = grouped_shares flat sound s g j k e in
      let both : are_together flat.groups r.owner.name s.owner.name ≡ true = any_in (λ y. has_member r.owner.name y && has_member s.owner.name y) g flat.groups k (and_from (has_member r.owner.name g) (has_member s.owner.name g) h e) in
      let other : are_together flat.groups s.owner.name r.owner.name ≡ true = any_in (λ y. has_member s.owner.name y && has_member r.owner.name y) g flat.groups k (and_from (has_member s.owner.name g) (has_member r.owner.name g) e h) in
      elim (pairs_in (GroupsAreOfMates flat.groups) r s flat.sockets sound.grouped.mates i j) [
        | inl same ↦ record { net = ap (λ (x : Socket). x.owner.net) same; addr = ap (λ (x : Socket). x.owner.addr) same; port = ap (λ (x : Socket). x.owner.port) same; dev = ap (λ (x : Socket). x.owner.dev) same }
        | inr (inl m) ↦ by_mates r.owner s (sym (m share_r share_s) ∙ both)
        | inr (inr m) ↦ other_way s.owner r.owner (by_mates s.owner r (sym (m share_s share_r) ∙ other))
      ]

  -- the card is a listener's
  listens : (c : Card) (o : OfSocket flat.groups flat.sockets c) (g : Group) → In g flat.groups → has_member o.socket.owner.name g ≡ true → c.kind ≡ kinds.Listen
  listens c o g k h =
      listening_kind o.socket.owner.state c.kind (and_parts (is_listening o.socket.owner.state) o.socket.owner.reuseport (grouped_shares flat sound o.socket g o.within k h)).0 o.says.kind

  -- two cards of one group match alike
  alike : (packet : Packet) (a b : Card) (g : Group) → In a all → In b all → In g flat.groups → has_member a.name g ≡ true → has_member b.name g ≡ true → rank a packet ≡ rank b packet
  alike packet a b g i j k h e =
      let o = of_socket flat.groups flat.sockets a i in
      let p = of_socket flat.groups flat.sockets b j in
      let has_a : has_member o.socket.owner.name g ≡ true = ap (λ n. has_member n g) o.says.name ∙ h in
      let has_b : has_member p.socket.owner.name g ≡ true = ap (λ n. has_member n g) p.says.name ∙ e in
      let end = at_one_end o.socket p.socket g o.within p.within k has_a has_b in
      let listens_a = listens a o g k has_a in
      let listens_b = listens b p g k has_b in
      let local : a.local ≡ b.local = sym (ap (λ (c : Card). c.local) o.says.is) ∙ end.addr ∙ ap (λ (c : Card). c.local) p.says.is in
      let lport : a.lport ≡ b.lport = sym (ap (λ (c : Card). c.lport) o.says.is) ∙ end.port ∙ ap (λ (c : Card). c.lport) p.says.is in
      let dev : a.dev ≡ b.dev = sym (ap (λ (c : Card). c.dev) o.says.is) ∙ end.dev ∙ ap (λ (c : Card). c.dev) p.says.is in
      let net : a.net ≡ b.net = sym (ap (λ (c : Card). c.net) o.says.is) ∙ end.net ∙ ap (λ (c : Card). c.net) p.says.is in
      rank_alike a b packet listens_a listens_b local lport dev net

  -- where a member's card stands
  pub record Member (m : ℕ) : Type 0 where
    pub row : ℕ
    pub hashed : Hashed
    pub there : In hashed (row_at t.chains row)
    pub mine : In hashed.card all
    pub slot : hashed.slot ≡ m / 2 ^ 64
    pub name : hashed.card.name ≡ m % 2 ^ 64

  member_at : (m : ℕ) → stands_in_some m t.chains.rows ≡ true → Member m
  member_at m h =
      let there = in_row (means.stands_as m) t.chains.rows h in
      let y = there.item in
      let parts = and_parts (y.slot == m / 2 ^ 64) (y.card.name == m % 2 ^ 64) there.passes in
      record {
        row = there.row;
        hashed = y;
        there = there.within;
        mine = stands_of t.chains flat mean.chains there.row y there.within;
        slot = eqb-true y.slot (m / 2 ^ 64) parts.0;
        name = eqb-true y.card.name (m % 2 ^ 64) parts.1;
      }

  -- the group of a number that the tables have
  module _ (n : ℕ) (inside : n / 8 < length t.buckets) where
    abbrev standing : Standing
    standing = get_or t.buckets (n / 8) untouched

    abbrev members : List ℕ
    members = members_at standing.held (n % 8)

    -- what lookers are shown of them
    abbrev pub words : List ℕ
    words = words_in standing.held n

    place_low : n % 8 < 8
    place_low = omega arith

    split : 8 * (n / 8) + n % 8 ≡ n
    split = omega arith

    abbrev IsThere : ℕ → Type 0
    IsThere m = stands_in_some m t.chains.rows ≡ true

    stand : Each IsThere members
    stand =
        let in_bucket = each_in (λ (s : Standing). Each (λ members. Each IsThere members) s.held.groups) standing t.buckets mean.groups.stand (place_in t.buckets (n / 8) untouched inside) in
        let eight : length standing.held.groups ≡ 8 = each_in (λ (s : Standing). length s.held.groups ≡ 8) standing t.buckets mean.groups.places (place_in t.buckets (n / 8) untouched inside) in
        each_in (λ members. Each IsThere members) members standing.held.groups in_bucket (place_in standing.held.groups (n % 8) [] (subst (λ k. n % 8 < k) (sym eight) place_low))

    pub are_members : AreMembers words
    are_members =
        each_map (λ m. 0 < m) shown members (in_each (λ m. 0 < shown m) members (λ m i. shown_some m))

    names : names_in members ≡ members_of n flat.groups
    names = mean.groups.members (n / 8) (n % 8) inside place_low ∙ ap (λ k. members_of k flat.groups) split

    count : length (names_in members) ≡ length members
    count = length-map members (λ m. m % 2 ^ 64)

    many : length words ≡ length (names_in members)
    many = length-map members shown ∙ sym count

    -- the group of a card that has this number is found by it
    found_as : (x : Card) (h : HasNumber (group_of x.name flat.groups) n) → find (places.at_number n) flat.groups ≡ Some h.group
    found_as x h =
        subst (λ k. find (places.at_number k) flat.groups ≡ Some h.group) h.number
        (found_number (has_member x.name) h.group flat.groups sound.grouped.numbers h.is)

    -- where a card's group has this number it has members
    pub some_words : (x : Card) → HasNumber (group_of x.name flat.groups) n → 1 ≤ length words
    some_words x h =
        let is : IsGroupOf flat.header.shape.bind flat.sockets h.group = each_in (IsGroupOf flat.header.shape.bind flat.sockets) h.group flat.groups sound.grouped.each (found_in (has_member x.name) flat.groups h.group h.is) in
        let same : names_in members ≡ h.group.members = names ∙ ap places.members_in (found_as x h) in
        omega (arith, is.some, many, ap (length {A = ℕ}) same)

    module _ (packet : Packet) (seed : ℕ) (some : 1 ≤ length words) where
      abbrev hash : ℕ
      hash = packet_hash packet seed

      abbrev place : ℕ
      place = scale hash (length words)

      low : place < length words
      low = scale_below hash (length words) (hash_fits packet seed) some

      -- the word at the place that the hash chooses
      abbrev pub word : ℕ
      word = get_or words place 0

      -- and the member of which it is shown
      abbrev pub taken : ℕ
      taken = get_or members place 0

      within_members : place < length members
      within_members = omega (arith, low, many, count)

      word_is : word ≡ shown taken
      word_is = get_or-map shown members place 0 0 within_members

      pub member_there : Member taken
      member_there = member_at taken (each_in IsThere taken members stand (place_in members place 0 within_members))

      -- the word has its slot, where that is below 2 ^ 32 - 1, and the lower half of its name
      pub word_slot : member_there.hashed.slot + 1 < 2 ^ 32 → slot_of word ≡ member_there.hashed.slot
      word_slot fits =
          ap slot_of word_is ∙ (shown_slot taken (subst (λ k. k + 1 < 2 ^ 32) member_there.slot fits) ∙ sym member_there.slot)

      pub word_name : name_of word ≡ member_there.hashed.card.name % 2 ^ 32
      word_name = ap name_of word_is ∙ (shown_name taken ∙ sym (ap (λ k. k % 2 ^ 32) member_there.name))

      named : taken % 2 ^ 64 ≡ get_or (names_in members) place 0
      named = sym (read_map (λ m. m % 2 ^ 64) members place 0)

      listed : ListedAs (find (places.at_number n) flat.groups) (names_in members)
      listed = listed_as (find (places.at_number n) flat.groups) (names_in members) names (subst (λ k. 1 ≤ k) many some)

      abbrev group : Group
      group = listed.group

      within : In group flat.groups
      within = found_in (places.at_number n) flat.groups group listed.is

      -- its name is that which the list's group has there
      chosen_is : taken % 2 ^ 64 ≡ chosen hash group
      chosen_is =
          named ∙ (ap (λ k. get_or (names_in members) (scale hash k) 0) many
          ∙ ap (λ ns. get_or ns (scale hash (length ns)) 0) listed.members)

      has_chosen : has_member (taken % 2 ^ 64) group ≡ true
      has_chosen =
          subst (λ ns. list_any (λ m. m == taken % 2 ^ 64) ns ≡ true) listed.members
          (any_in (λ m. m == taken % 2 ^ 64) (get_or (names_in members) place 0) (names_in members) (place_in (names_in members) place 0 (subst (λ k. place < k) many low))
          (eq-eqb (get_or (names_in members) place 0) (taken % 2 ^ 64) (sym named)))

      -- so a card of that name is what the list's group comes to
      pub member_is : (c : Card) → In c all → c.name ≡ member_there.hashed.card.name → member_of hash all flat.groups c ≡ Some c
      member_is c i same_as =
          let name : c.name ≡ taken % 2 ^ 64 = same_as ∙ member_there.name in
          let is : group_of c.name flat.groups ≡ Some group = named_group flat sound c group i within (ap (λ k. has_member k group) name ∙ has_chosen) in
          let f = finds (λ (d : Card). d.name == chosen hash group) c all i (eq-eqb c.name (chosen hash group) (name ∙ chosen_is)) in
          let same : f.item ≡ c = same_name flat sound f.item c f.within i (eqb-true f.item.name (chosen hash group) f.passes ∙ sym (name ∙ chosen_is)) in
          ap (λ o. option_map_or (λ g. find (λ (d : Card). d.name == chosen hash g) all) o (Some c)) is
          ∙ (f.is ∙ ap Some same)

      -- and matches as each other member does
      pub member_like : (x : Card) → In x all → HasNumber (group_of x.name flat.groups) n → rank member_there.hashed.card packet ≡ rank x packet
      member_like x i h =
          let at = member_there in
          let is : h.group ≡ group = some_same h.group group (sym (found_as x h) ∙ listed.is) in
          let has : has_member x.name group ≡ true = subst (λ g. has_member x.name g ≡ true) is (found_passes (has_member x.name) flat.groups h.group h.is) in
          alike packet at.hashed.card x group at.mine i within (ap (λ k. has_member k group) at.name ∙ has_chosen) has
