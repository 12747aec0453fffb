-- The cards of a sound list: each name has one card, and a card says in which group its listener is.
use Rattle.std.proofs.Common.{◌≡◌, ◌≢◌, ℕ, ◌+◌, ◌-◌, ◌*◌, ◌/◌, ◌%◌, ◌<◌, ◌≤◌, Bool, true, false, ◌&&◌, ◌||◌, ◌==◌, nat_lt, cond, List, [], Option, Some, None, refl, sym, ap, ◌∙◌, inl, inr, arith}
use Rattle.std.specs.Prelude.{count_by}
use Rattle.std.specs.Option.{option_map_or}
use Rattle.std.proofs.lemmas.Bool.{both_ways, le-ltb}
use Rattle.std.proofs.lemmas.Bool.Decides.{nat_tests}
use Rattle.list_words.proofs.EachLemmas.{some_same, found_passes}
use Rattle.list_words.proofs.PairsLemmas.{pairs_filter_map}
use Rattle.sock_card.specs.declared.card.Card.{Card}
use Rattle.sock_card.specs.declared.card.Kind.{Kind}
use Rattle.sock_card.specs.declared.card.Kind.TheVariants as kinds
use Rattle.sock_card.specs.declared.owner.State.{State}
use Rattle.sock_card.specs.declared.owner.State.TheVariants as states
use Rattle.sock_card.specs.Conflict.{owner_key, is_listening}
use Rattle.flat_list.specs.declared.socket.Socket.{Socket}
use Rattle.flat_list.specs.Flat.{Flat}
use Rattle.flat_list.specs.Groups.{Group, has_member, bucket_of}
use Rattle.flat_list.specs.Look.{card_of, cards_of, extra_as, group_of}
use Rattle.flat_list.specs.Sockets.{kind_of}
use Rattle.flat_list.specs.Sound.{IsSound, NamesDiffer, IsInOneGroup, IsGroupOf, is_sharing}
use Rattle.demux.specs.Chosen.{group_as, group_in}
use Rattle.table_model.proofs.parts.GroupPlaces.{count_none, one_only}
use Rattle.flat_list.proofs.CardsOf.{OfSocket, of_socket, says}
use Rattle.list_words.proofs.Items.{In, each_in, pairs_in, finds, finds_none, found_in}

-- no group has the name
abbrev pub NoGroup : List Group → ℕ → Type 0
NoGroup groups name = group_of name groups ≡ None

not_listening : (st : State) (k : Kind) → kind_of st ≡ Some k → k ≢ kinds.Listen → is_listening st ≡ false
not_listening states.Listening k h differs = absurd (differs (sym (some_same kinds.Listen k h)))
not_listening states.Full k h differs = refl
not_listening states.TimeWait k h differs = refl
not_listening states.Request k h differs = refl
not_listening states.Bound k h differs = refl
not_listening states.Unbound k h differs = refl

counted_at : (b : Bool) (n : ℕ) → n ≡ cond {A = ℕ} b 1 0 → n ≤ 1
counted_at true n h = omega (arith, h)
counted_at false n h = omega (arith, h)

no_number : (o : Option Group) → option_map_or (λ (g : Group). g.number + 1) o 0 ≡ 0 → o ≡ None
no_number None h = refl
no_number (Some g) h = absurd (omega (arith, h))

-- the group of a number
pub record HasNumber (o : Option Group) (n : ℕ) : Type 0 where
  pub group : Group
  pub is : o ≡ Some group
  pub number : group.number ≡ n

a_number : (o : Option Group) (extra n : ℕ) → option_map_or (λ (g : Group). g.number + 1) o 0 ≡ extra → extra ≢ 0 → extra - 1 ≡ n → HasNumber o n
a_number None extra n h q e = absurd (q (sym h))
a_number (Some g) extra n h q e = record { group = g; is = refl; number = omega (arith, h, e) }

or_first : (b c : Bool) → c ≡ false → (b || c) ≡ b
or_first true c h = refl
or_first false c h = h

-- the group that a listener's card names, if it is one of so many
abbrev told : ℕ → Bool → Option ℕ
told extra none = cond {A = Option ℕ} none None (Some (extra - 1))

told_within : (extra count : ℕ) → extra ≤ count → group_as kinds.Listen extra count ≡ told extra (extra == 0)
told_within extra count most =
    ap (told extra) (or_first (extra == 0) (nat_lt count extra) (le-ltb count extra most))

zero_extra : (extra : ℕ) (b : Bool) → (extra == 0) ≡ b → told extra b ≡ None → extra ≡ 0
zero_extra extra true e h = grind (arith, nat_tests)
zero_extra extra false e h = absurd (cc)

some_extra : (extra n : ℕ) (b : Bool) → (extra == 0) ≡ b → told extra b ≡ Some n → (extra ≢ 0) × (extra - 1 ≡ n)
some_extra extra n true e h = absurd (cc)
some_extra extra n false e h = (λ q. let yes : (extra == 0) ≡ true = grind (arith, nat_tests) in both_ways (extra == 0) e yes, some_same (extra - 1) n h)

bound_at : (o : Option Group) (extra count : ℕ) → option_map_or (λ (g : Group). g.number + 1) o 0 ≡ extra → ((g : Group) → o ≡ Some g → g.number < count) → extra ≤ count
bound_at None extra count h low = omega (arith, h)
bound_at (Some g) extra count h low = omega (arith, h, low g refl)

below_eight : (key buckets number : ℕ) → 1 ≤ buckets → key % buckets ≡ number / 8 → number < 8 * buckets
below_eight key buckets number some e =
    let low : key % buckets < buckets = omega arith in omega (arith, low, e)

module _ (flat : Flat) (sound : IsSound flat) where
  abbrev pub cards : List Card
  cards = cards_of flat.groups flat.sockets

  -- two cards of one name are one
  pub same_name : (a b : Card) → In a cards → In b cards → a.name ≡ b.name → a ≡ b
  same_name a b i j e =
      elim (pairs_in (λ (x y : Card). x.name ≢ y.name) a b cards
      (pairs_filter_map NamesDiffer (λ (x y : Card). x.name ≢ y.name) (card_of flat.groups) flat.sockets
      (λ x y c d is at q h. q ((says flat.groups x c is).name ∙ h ∙ sym (says flat.groups y d at).name)) sound.names) i j) [
        | inl same ↦ same
        | inr (inl q) ↦ absurd (q e)
        | inr (inr q) ↦ absurd (q (sym e))
      ]

  abbrev counted : ℕ → ℕ
  counted name = count_by (has_member name) flat.groups

  one_group : (s : Socket) → In s flat.sockets → IsInOneGroup flat.groups s
  one_group s i = each_in (IsInOneGroup flat.groups) s flat.sockets sound.grouped.sharing i

  -- the group that has a socket's name is that in which the name is found
  pub only_group : (s : Socket) (g : Group) → In s flat.sockets → In g flat.groups → has_member s.owner.name g ≡ true → group_of s.owner.name flat.groups ≡ Some g
  only_group s g i j h =
      let f = finds (has_member s.owner.name) g flat.groups j h in
      let one = one_only (has_member s.owner.name) flat.groups f.item (counted_at (is_sharing s) (counted s.owner.name) (one_group s i)) f.is in
      f.is ∙ ap Some (sym (each_in (λ (y : Group). has_member s.owner.name y ≡ true → y ≡ f.item) g flat.groups one j h))

  no_share : (s : Socket) → In s flat.sockets → is_listening s.owner.state ≡ false → NoGroup flat.groups s.owner.name
  no_share s i h =
      let no : is_sharing s ≡ false = ap (λ (b : Bool). b && s.owner.reuseport) h in
      finds_none (has_member s.owner.name) flat.groups
      (count_none (has_member s.owner.name) flat.groups (one_group s i ∙ ap (λ (b : Bool). cond {A = ℕ} b 1 0) no))

  -- a listener's card has its group's number plus 1
  tells : (c : Card) (o : OfSocket flat.groups flat.sockets c) → c.kind ≡ kinds.Listen → option_map_or (λ (g : Group). g.number + 1) (group_of c.name flat.groups) 0 ≡ c.extra
  tells c o listens =
      ap (λ (n : ℕ). option_map_or (λ (g : Group). g.number + 1) (group_of n flat.groups) 0) (sym o.says.name)
      ∙ ap (λ (k : Kind). extra_as k flat.groups o.socket) (sym listens) ∙ ap (λ (d : Card). d.extra) o.says.is

  -- a group's number is below eight for each bind bucket
  number_below : 1 ≤ flat.header.shape.bind → (c : Card) (o : OfSocket flat.groups flat.sockets c) (g : Group) → group_of c.name flat.groups ≡ Some g → g.number < 8 * flat.header.shape.bind
  number_below some c o g h =
      let is : IsGroupOf flat.header.shape.bind flat.sockets g = each_in (IsGroupOf flat.header.shape.bind flat.sockets) g flat.groups sound.grouped.each (found_in (has_member c.name) flat.groups g h) in
      let at = each_in (λ (s : Socket). has_member s.owner.name g ≡ true → bucket_of (owner_key s.owner) flat.header.shape.bind ≡ g.number / 8) o.socket flat.sockets is.bucket o.within
      (ap (λ n. has_member n g) o.says.name ∙ found_passes (has_member c.name) flat.groups g h) in
      below_eight (owner_key o.socket.owner) flat.header.shape.bind g.number some at

  module _ (some : 1 ≤ flat.header.shape.bind) (count : ℕ) (count_is : count ≡ 8 * flat.header.shape.bind) where
    within : (c : Card) (o : OfSocket flat.groups flat.sockets c) → c.kind ≡ kinds.Listen → c.extra ≤ count
    within c o e =
        bound_at (group_of c.name flat.groups) c.extra count (tells c o e) (λ g h. omega (arith, count_is, number_below some c o g h))

    none_by : (c : Card) (o : OfSocket flat.groups flat.sockets c) (k : Kind) → c.kind ≡ k → group_as k c.extra count ≡ None → NoGroup flat.groups c.name
    none_by c o kinds.Listen e h =
        no_number (group_of c.name flat.groups) (tells c o e ∙ zero_extra c.extra (c.extra == 0) refl (sym (told_within c.extra count (within c o e)) ∙ h))
    none_by c o kinds.Full e h =
        ap (λ (n : ℕ). group_of n flat.groups) (sym o.says.name)
        ∙ no_share o.socket o.within (not_listening o.socket.owner.state c.kind o.says.kind (λ q. let no : kinds.Full ≡ kinds.Listen = sym e ∙ q in absurd (cc)))
    none_by c o kinds.TimeWait e h =
        ap (λ (n : ℕ). group_of n flat.groups) (sym o.says.name)
        ∙ no_share o.socket o.within (not_listening o.socket.owner.state c.kind o.says.kind (λ q. let no : kinds.TimeWait ≡ kinds.Listen = sym e ∙ q in absurd (cc)))
    none_by c o kinds.Request e h =
        ap (λ (n : ℕ). group_of n flat.groups) (sym o.says.name)
        ∙ no_share o.socket o.within (not_listening o.socket.owner.state c.kind o.says.kind (λ q. let no : kinds.Request ≡ kinds.Listen = sym e ∙ q in absurd (cc)))

    -- a card that names no group is in none
    pub no_group : (c : Card) → In c cards → group_in c count ≡ None → NoGroup flat.groups c.name
    no_group c i h = none_by c (of_socket flat.groups flat.sockets c i) c.kind refl h

    some_by : (c : Card) (n : ℕ) (o : OfSocket flat.groups flat.sockets c) (k : Kind) → c.kind ≡ k → group_as k c.extra count ≡ Some n → HasNumber (group_of c.name flat.groups) n
    some_by c n o kinds.Listen e h =
        let some = some_extra c.extra n (c.extra == 0) refl (sym (told_within c.extra count (within c o e)) ∙ h) in
        a_number (group_of c.name flat.groups) c.extra n (tells c o e) some.0 some.1
    some_by c n o kinds.Full e h = absurd (cc)
    some_by c n o kinds.TimeWait e h = absurd (cc)
    some_by c n o kinds.Request e h = absurd (cc)

    -- a card that names a group is in that of this number
    pub some_group : (c : Card) (n : ℕ) → In c cards → group_in c count ≡ Some n → HasNumber (group_of c.name flat.groups) n
    some_group c n i h = some_by c n (of_socket flat.groups flat.sockets c i) c.kind refl h
