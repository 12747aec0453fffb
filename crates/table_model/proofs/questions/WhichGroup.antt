-- In which group a listener would be: a bucket decides it as the list does.
use Rattle.std.proofs.Common.{◌≡◌, ◌≢◌, ℕ, ◌+◌, ◌*◌, ◌/◌, ◌%◌, ◌^◌, ◌<◌, ◌≤◌, ◌==◌, Bool, true, false, ◌&&◌, ◌||◌, not, cond, ltb, List, [], ◌∷◌, ◌++◌, length, get_or, map, find, position, Option, Some, None, ◌⊎◌, inl, inr, refl, sym, ap, subst, ◌∙◌, arith}
use Rattle.std.specs.Prelude.{is_some, count_by}
use Rattle.std.specs.List.{list_any}
use Rattle.std.proofs.lemmas.List.Quantifiers.{position-Some}
use Rattle.std.proofs.lemmas.Bool.Decides.{nat_tests}
use Rattle.std.specs.Option.{option_map, option_map_or, option_or, option_and_then}
use Rattle.std.proofs.lemmas.Bool.{eqb-true, eq-eqb, both_ways, and_parts, and_from, false_from_ne_true, cond-true, cond-false, le-ltb}
use Rattle.std.proofs.lemmas.List.{length-map, nil_from_length}
use Rattle.list_words.specs.Lists.{Each, Pairs, total}
use Rattle.list_words.proofs.EachLemmas.{each_weaken, each_found, found_passes}
use Rattle.list_words.proofs.PairsLemmas.{pairs_weaken, pairs_found}
use Rattle.list_words.proofs.Truths.{some_of}
use Rattle.sock_card.specs.Limits.{group_room}
use Rattle.sock_card.specs.declared.owner.Owner.{Owner}
use Rattle.sock_card.specs.declared.owner.State.{State}
use Rattle.sock_card.specs.declared.owner.State.TheVariants as states
use Rattle.sock_card.specs.Conflict.{is_mate as is_mate_of, owner_key, same_port, is_listening}
use Rattle.bind_buckets.specs.declared.request.Answer.{Answer}
use Rattle.bind_buckets.specs.declared.request.Answer.TheVariants as answers
use Rattle.bind_buckets.specs.Journal.{Standing}
use Rattle.bind_buckets.specs.Members.{has_member as is_member}
use Rattle.bind_buckets.specs.OwnerStep.{Held, is_free, place_for, members_at, group_answer, group_number}
use Rattle.flat_list.specs.declared.socket.Socket.{Socket}
use Rattle.flat_list.specs.Flat.{Flat}
use Rattle.flat_list.specs.Groups.{Group, has_member, join, join_group, with_group, is_full_group}
use Rattle.flat_list.specs.Sockets.{is_owner, is_mate, mate_of}
use Rattle.flat_list.specs.Sound.{IsSound, IsGroupOf, IsInOneGroup, GroupsAreOfMates, is_sharing}
use Rattle.flat_list.specs.Step.{groups_with}
use Rattle.table_model.specs.Tables.{Tables}
use Rattle.bind_buckets.specs.BindHash.{standing_at, untouched}
use Rattle.table_model.specs.Means.{OwnersMean, GroupsMean, owns, names_in, members_of}
use Rattle.table_model.proofs.lists.Passing.{ind, found_counts, total_same, found_weighs, same_answer}
use Rattle.table_model.proofs.questions.Replaced.{some_found}
use Rattle.table_model.proofs.parts.Buckets.{near}
use Rattle.table_model.proofs.questions.Conflicts.{weighs_there}
use Rattle.table_model.proofs.parts.GroupPlaces.{at_number, OnlyAt, GroupsAt, members_in, found_number, one_only, count_cons, count_none, none_found, place_of_group}
use Rattle.table_model.proofs.parts.FreePlace.{HasSome, free_is, free_there, any_found}
use Rattle.table_model.proofs.parts.Joining.{members_joined, members_kept, members_begun, members_beside}
use Rattle.table_model.proofs.parts.GroupCards.{extra_of, extra_joined, extra_joins, extra_begun, extra_begins}
use Rattle.table_model.proofs.parts.Groups.{any_by_found, each_at}

-- one socket in two places of a list
abbrev both : ℕ → ℕ → Group → Bool
both a b g = has_member a g && has_member b g

-- two sockets of one end, device and user
record SameEnd (a b : Owner) : Type 0 where
  net : a.net ≡ b.net
  port : a.port ≡ b.port
  dev : a.dev ≡ b.dev
  uid : a.uid ≡ b.uid
  addr : a.addr ≡ b.addr

-- two such listeners are in one group
abbrev InOne : List Group → Socket → Socket → Type 0
InOne groups a b = is_sharing a ≡ true → is_sharing b ≡ true → SameEnd a.owner b.owner → list_any (both a.owner.name b.owner.name) groups ≡ true

and_swap : (x y : Bool) → (x && y) ≡ (y && x)
and_swap true true = refl
and_swap true false = refl
and_swap false true = refl
and_swap false false = refl

any_swap : (a b : ℕ) (groups : List Group) → list_any (both a b) groups ≡ list_any (both b a) groups
any_swap a b [] = refl
any_swap a b (g ∷ groups) =
    ap (λ x. x || list_any (both a b) groups) (and_swap (has_member a g) (has_member b g)) ∙ ap (λ x. (has_member b g && has_member a g) || x) (any_swap a b groups)

in_one_swap : (groups : List Group) (a b : Socket) → InOne groups a b → InOne groups b a
in_one_swap groups a b h p q e =
    any_swap b.owner.name a.owner.name groups
    ∙ h q p (record { net = sym e.net; port = sym e.port; dev = sym e.dev; uid = sym e.uid; addr = sym e.addr })

mates_by : (a b : Socket) → is_sharing a ≡ true → is_sharing b ≡ true → SameEnd a.owner b.owner → is_mate a.owner b ≡ true
mates_by a b p q e =
    let x = and_parts (is_listening a.owner.state) a.owner.reuseport p in
    let y = and_parts (is_listening b.owner.state) b.owner.reuseport q in
    rw (y.0, x.1, y.1, eq-eqb a.owner.net b.owner.net e.net, eq-eqb a.owner.port b.owner.port e.port, eq-eqb a.owner.dev b.owner.dev e.dev, eq-eqb a.owner.uid b.owner.uid e.uid, eq-eqb a.owner.addr b.owner.addr e.addr) refl

in_one_by : (groups : List Group) (a b : Socket) → GroupsAreOfMates groups a b → InOne groups a b
in_one_by groups a b h p q e = h p q ∙ mates_by a b p q e

-- what a mate is
record IsMate (a b : Owner) : Type 0 where
  listens : is_listening b.state ≡ true
  shares : b.reuseport ≡ true
  net : a.net ≡ b.net
  port : a.port ≡ b.port
  dev : a.dev ≡ b.dev
  uid : a.uid ≡ b.uid
  addr : a.addr ≡ b.addr

mate_parts : (a b : Owner) → is_mate_of a b ≡ true → IsMate a b
mate_parts a b h =
    let one = and_parts (is_listening b.state && (a.reuseport && b.reuseport) && same_port a b && (a.dev == b.dev) && (a.uid == b.uid)) (a.addr == b.addr) h in
    let two = and_parts (is_listening b.state && (a.reuseport && b.reuseport) && same_port a b && (a.dev == b.dev)) (a.uid == b.uid) one.0 in
    let three = and_parts (is_listening b.state && (a.reuseport && b.reuseport) && same_port a b) (a.dev == b.dev) two.0 in
    let four = and_parts (is_listening b.state && (a.reuseport && b.reuseport)) (same_port a b) three.0 in
    let port = and_parts (a.net == b.net) (a.port == b.port) four.1 in
    let five = and_parts (is_listening b.state) (a.reuseport && b.reuseport) four.0 in
    record {
      listens = five.0;
      shares = (and_parts a.reuseport b.reuseport five.1).1;
      net = eqb-true a.net b.net port.0;
      port = eqb-true a.port b.port port.1;
      dev = eqb-true a.dev b.dev three.1;
      uid = eqb-true a.uid b.uid two.1;
      addr = eqb-true a.addr b.addr one.1;
    }

mates_key : (a b : Owner) → IsMate a b → owner_key a ≡ owner_key b
mates_key a b m = rw (m.net, m.port) refl

sharing : (a : Owner) (s : Socket) → IsMate a s.owner → is_sharing s ≡ true
sharing a s h = and_from (is_listening s.owner.state) s.owner.reuseport h.listens h.shares

pub listener_owns : (st : State) → is_listening st ≡ true → is_owner st ≡ true
listener_owns states.Listening h = refl
listener_owns states.Unbound h = absurd (cc)
listener_owns states.Bound h = absurd (cc)
listener_owns states.Full h = absurd (cc)
listener_owns states.TimeWait h = absurd (cc)
listener_owns states.Request h = absurd (cc)

cond_one : (b : Bool) → b ≡ true → cond {A = ℕ} b 1 0 ≡ 1
cond_one true h = refl
cond_one false h = absurd (cc)

none_counted : (k : ℕ) (groups : List Group) → Each (λ g. has_member k g ≡ false) groups → count_by (has_member k) groups ≡ 0
none_counted k [] none = refl
none_counted k (g ∷ groups) none =
    omega (arith, count_cons (has_member k) g groups, ap (λ (b : Bool). cond {A = ℕ} b 1 0) none.0, none_counted k groups none.1)

nobody : (k : ℕ) (groups : List Group) → Each (λ g. has_member k g ≡ false) groups → count_by (has_member k) groups ≡ 1 → ⊥
nobody k groups none one = absurd (omega (arith, none_counted k groups none, one))

found_by : (k : ℕ) (groups : List Group) (o : Option Group) → find (has_member k) groups ≡ o → count_by (has_member k) groups ≡ 1 → (g : Group) × (find (has_member k) groups ≡ Some g)
found_by k groups (Some g) e one = (g, e)
found_by k groups None e one = absurd (nobody k groups (none_found (has_member k) groups e) one)

-- who is in one group is found in it
found_in : (k : ℕ) (groups : List Group) → count_by (has_member k) groups ≡ 1 → (g : Group) × (find (has_member k) groups ≡ Some g)
found_in k groups one = found_by k groups (find (has_member k) groups) refl one

module _ (flat : Flat) (sound : IsSound flat) where
  -- a listener that shares its end is in one group, of its port's bucket
  pub record InGroup (s : Socket) (g : Group) : Type 0 where
    pub found : find (has_member s.owner.name) flat.groups ≡ Some g
    pub only : Each (λ y. has_member s.owner.name y ≡ true → y ≡ g) flat.groups
    pub of : IsGroupOf flat.header.shape.bind flat.sockets g

  -- the group of a listener that shares its end
  pub group_of_sharing : (q : Socket → Bool) (s : Socket) → find q flat.sockets ≡ Some s → is_sharing s ≡ true → (g : Group) × InGroup s g
  group_of_sharing q s at shares =
      let one : count_by (has_member s.owner.name) flat.groups ≡ 1 = each_found (IsInOneGroup flat.groups) q flat.sockets s sound.grouped.sharing at ∙ cond_one (is_sharing s) shares in
      let g = found_in s.owner.name flat.groups one in (
        g.0,
        record {
          found = g.1;
          only = one_only (has_member s.owner.name) flat.groups g.0 (omega arith) g.1;
          of = each_found (IsGroupOf flat.header.shape.bind flat.sockets) (has_member s.owner.name) flat.groups g.0 sound.grouped.each g.1;
        },
      )

  -- no group has who shares no end yet
  pub in_no_group : (q : Socket → Bool) (s : Socket) → find q flat.sockets ≡ Some s → is_sharing s ≡ false → Each (λ g. has_member s.owner.name g ≡ false) flat.groups
  in_no_group q s at none =
      count_none (has_member s.owner.name) flat.groups
      (each_found (IsInOneGroup flat.groups) q flat.sockets s sound.grouped.sharing at ∙ ap (λ (b : Bool). cond {A = ℕ} b 1 0) none)

  same_by : (a : Owner) (p : Socket → Bool) (s0 s1 : Socket) (g : Group) → (s1 ≡ s0) ⊎ InOne flat.groups s0 s1 → find p flat.sockets ≡ Some s0 → IsMate a s0.owner → IsMate a s1.owner → InGroup s0 g → has_member s1.owner.name g ≡ true
  same_by a p s0 s1 g (inl is) at0 m0 m1 inside =
      ap (λ (s : Socket). has_member s.owner.name g) is ∙ found_passes (has_member s0.owner.name) flat.groups g inside.found
  same_by a p s0 s1 g (inr in_one) at0 m0 m1 inside =
      let some : list_any (both s0.owner.name s1.owner.name) flat.groups ≡ true =
      in_one (sharing a s0 m0) (sharing a s1 m1) (record { net = sym m0.net ∙ m1.net; port = sym m0.port ∙ m1.port; dev = sym m0.dev ∙ m1.dev; uid = sym m0.uid ∙ m1.uid; addr = sym m0.addr ∙ m1.addr }) in
      let h = some_of (find (both s0.owner.name s1.owner.name) flat.groups) (sym (any_found (both s0.owner.name s1.owner.name) flat.groups) ∙ some) in
      let passes = and_parts (has_member s0.owner.name h.0) (has_member s1.owner.name h.0) (found_passes (both s0.owner.name s1.owner.name) flat.groups h.0 h.1) in
      let is : h.0 ≡ g = each_found (λ y. has_member s0.owner.name y ≡ true → y ≡ g) (both s0.owner.name s1.owner.name) flat.groups h.0 inside.only h.1 passes.0 in
      ap (has_member s1.owner.name) (sym is) ∙ passes.1

  -- two mates of one owner are in one group
  same_group : (a : Owner) (p q : Socket → Bool) (s0 s1 : Socket) (g : Group) → find p flat.sockets ≡ Some s0 → find q flat.sockets ≡ Some s1 → IsMate a s0.owner → IsMate a s1.owner → InGroup s0 g → has_member s1.owner.name g ≡ true
  same_group a p q s0 s1 g at0 at1 m0 m1 inside =
      let pairs : Pairs (InOne flat.groups) flat.sockets = pairs_weaken (GroupsAreOfMates flat.groups) (InOne flat.groups) flat.sockets (λ x y h. in_one_by flat.groups x y h) sound.grouped.mates in
      let or : (s1 ≡ s0) ⊎ InOne flat.groups s0 s1 = each_found (λ y. (y ≡ s0) ⊎ InOne flat.groups s0 y) q flat.sockets s1
      (pairs_found (InOne flat.groups) p flat.sockets s0 (λ x y h. in_one_swap flat.groups x y h) pairs at0) at1 in
      same_by a p s0 s1 g or at0 m0 m1 inside

no_mate : (a b : Owner) → owner_key b ≢ owner_key a → ind (is_mate_of a) b ≡ 0
no_mate a b d =
    ap (λ (x : Bool). cond {A = ℕ} x 1 0) (false_from_ne_true (is_mate_of a b) (λ e. d (sym (mates_key a b (mate_parts a b e)))))

owned_mate : (o m : Bool) → (m ≡ true → o ≡ true) → cond {A = ℕ} o (cond {A = ℕ} m 1 0) 0 ≡ cond {A = ℕ} m 1 0
owned_mate true m h = refl
owned_mate false true h = absurd (let z : false ≡ true = h refl in cc)
owned_mate false false h = refl

named_mate : (o m k : Bool) → (m ≡ true → o ≡ true) → cond {A = ℕ} o (cond {A = ℕ} (m && k) 1 0) 0 ≡ cond {A = ℕ} (m && k) 1 0
named_mate true m k h = refl
named_mate false true k h = absurd (let z : false ≡ true = h refl in cc)
named_mate false false k h = refl

none_is : {A : Type 0} (o : Option A) → is_some o ≡ false → o ≡ None
none_is None h = refl
none_is (Some x) h = absurd (cc)

module _ (buckets : List Standing) (flat : Flat) (om : OwnersMean buckets flat) (some : 1 ≤ flat.header.shape.bind) (a : Owner) where
  abbrev owners : List Owner
  owners = (standing_at buckets (owner_key a)).held.owners

  mate_owns : (x : Socket) → is_mate_of a x.owner ≡ true → is_owner x.owner.state ≡ true
  mate_owns x e = listener_owns x.owner.state (mate_parts a x.owner e).listens

  -- a bucket has a mate where the list has one
  pub mates_alike : is_some (find (is_mate_of a) owners) ≡ is_some (find (is_mate a) flat.sockets)
  mates_alike =
      same_answer (is_some (find (is_mate_of a) owners)) (is_some (find (is_mate a) flat.sockets)) (total (ind (is_mate_of a)) owners) (total (ind (is_mate a)) flat.sockets)
      (found_weighs (is_mate_of a) owners) (found_weighs (is_mate a) flat.sockets)
      (weighs_there buckets flat om some (ind (is_mate_of a)) (owner_key a) (λ x d. no_mate a x d)
      ∙ total_same (owns (ind (is_mate_of a))) (ind (is_mate a)) flat.sockets (λ x. owned_mate (is_owner x.owner.state) (is_mate_of a x.owner) (mate_owns x)))

  abbrev mate_named : ℕ → Owner → Bool
  mate_named k x = is_mate_of a x && (x.name == k)

  -- a mate of the bucket is a socket of the list
  pub mate_listed : (x : Owner) → find (is_mate_of a) owners ≡ Some x → (s : Socket) × (find (λ y. mate_named x.name y.owner) flat.sockets ≡ Some s)
  mate_listed x found =
      let passes : mate_named x.name x ≡ true = and_from (is_mate_of a x) (x.name == x.name) (found_passes (is_mate_of a) owners x found) (eq-eqb x.name x.name refl) in
      let there : 1 ≤ total (ind (mate_named x.name)) owners = found_counts (mate_named x.name) (is_mate_of a) owners x found passes in
      let same : total (ind (mate_named x.name)) owners ≡ total (ind (λ (y : Socket). mate_named x.name y.owner)) flat.sockets =
      weighs_there buckets flat om some (ind (mate_named x.name)) (owner_key a)
      (λ y d. ap (λ (b : Bool). cond {A = ℕ} (b && (y.name == x.name)) 1 0) (false_from_ne_true (is_mate_of a y) (λ e. d (sym (mates_key a y (mate_parts a y e))))))
      ∙ total_same (owns (ind (mate_named x.name))) (ind (λ (y : Socket). mate_named x.name y.owner)) flat.sockets (λ y. named_mate (is_owner y.owner.state) (is_mate_of a y.owner) (y.owner.name == x.name) (mate_owns y)) in
      some_found (λ (y : Socket). mate_named x.name y.owner) flat.sockets (omega (arith, there, same))

-- the listener's place in its bucket, and the groups of the list with it in them
pub record HasRoom (buckets : List Standing) (flat : Flat) (s : Socket) (place : ℕ) (groups : List Group) : Type 0 where
  pub there : place_for (standing_at buckets (owner_key s.owner)).held s.owner ≡ Some place
  pub below : place < 8
  pub less : length (members_at (standing_at buckets (owner_key s.owner)).held place) < group_room
  pub listed : groups_with flat s ≡ Some groups
  pub more : members_of (8 * ((owner_key s.owner) % length buckets) + place) groups ≡ members_of (8 * ((owner_key s.owner) % length buckets) + place) flat.groups ++ s.owner.name ∷ []
  pub others : (n : ℕ) → n ≢ 8 * ((owner_key s.owner) % length buckets) + place → members_of n groups ≡ members_of n flat.groups
  pub extra : extra_of s.owner.name groups ≡ 8 * ((owner_key s.owner) % length buckets) + place + 1
  pub extras : (k : ℕ) → s.owner.name ≢ k → extra_of k groups ≡ extra_of k flat.groups

-- what its bucket answers as for groups
abbrev pub group_at : List Standing → Socket → Answer
group_at buckets s =
    group_answer ((owner_key s.owner) % length buckets) (standing_at buckets (owner_key s.owner)).held (place_for (standing_at buckets (owner_key s.owner)).held s.owner)

-- a group, or the bucket, is full
abbrev pub IsFull : Answer → Type 0
IsFull x = (x ≡ answers.GroupFull) ⊎ (x ≡ answers.GroupsFull)

-- no group has room for the listener
pub record HasNone (buckets : List Standing) (flat : Flat) (s : Socket) : Type 0 where
  pub answer : IsFull (group_at buckets s)
  pub listed : groups_with flat s ≡ None

-- a bucket has room for a listener where the list has
pub data Decided (buckets : List Standing) (flat : Flat) (s : Socket) : Type 0 where
  room : (place : ℕ) (groups : List Group) → HasRoom buckets flat s place groups → Decided buckets flat s
  none : HasNone buckets flat s → Decided buckets flat s

not_false_is : (x : Bool) → not x ≡ true → x ≡ false
not_false_is true h = absurd (cc)
not_false_is false h = refl

none_full : (k : ℕ) (groups : List Group) (o : Option Group) → find (is_full_group k) groups ≡ o → (g : Group) → (length g.members == group_room) ≡ false → Each (λ y. has_member k y ≡ true → y ≡ g) groups → list_any (is_full_group k) groups ≡ false
none_full k groups None e g no_more only = any_found (is_full_group k) groups ∙ ap is_some e
none_full k groups (Some y) e g no_more only =
    let parts = and_parts (has_member k y) (length y.members == group_room) (found_passes (is_full_group k) groups y e) in
    let is : y ≡ g = each_found (λ z. has_member k z ≡ true → z ≡ g) (is_full_group k) groups y only e parts.0 in
    absurd (both_ways (length y.members == group_room) (ap (λ (z : Group). length z.members == group_room) is ∙ no_more) parts.1)

below_room : (n : ℕ) → n ≤ group_room → (n == group_room) ≡ false → n < group_room
below_room n h e = grind (arith, nat_tests)

position_within : {A : Type 0} (p : A → Bool) (xs : List A) (i : ℕ) (d : A) → position p xs ≡ Some i → (i < length xs) × (p (get_or xs i d) ≡ true)
position_within p xs i d h = let at = position-Some p xs i d h in (at.0, at.1)

empty_members : (ms : List ℕ) → is_free ms ≡ true → ms ≡ []
empty_members ms h = nil_from_length ms (eqb-true (length ms) 0 h)

module _ (t : Tables) (flat : Flat) (om : OwnersMean t.buckets flat) (gm : GroupsMean t flat) (some : 1 ≤ flat.header.shape.bind) (sound : IsSound flat)
    (q : Socket → Bool) (s : Socket) (at : find q flat.sockets ≡ Some s) (bound : is_listening s.owner.state ≡ false) (shares : s.owner.reuseport ≡ true) where
  abbrev a : Owner
  a = s.owner

  abbrev bucket : ℕ
  bucket = (owner_key a) % length t.buckets

  abbrev held : Held
  held = (standing_at t.buckets (owner_key a)).held

  inside : bucket < length t.buckets
  inside = near t.buckets flat om some (owner_key a)

  eight : length held.groups ≡ 8
  eight = each_at (λ (x : Standing). length x.held.groups ≡ 8) t.buckets bucket untouched gm.places inside

  means : GroupsAt bucket held.groups flat.groups
  means place l = gm.members bucket place inside l

  filled : Each HasSome flat.groups
  filled = each_weaken (IsGroupOf flat.header.shape.bind flat.sockets) HasSome flat.groups (λ g h. h.some) sound.grouped.each

  not_sharing : is_sharing s ≡ false
  not_sharing = ap (λ (b : Bool). b && a.reuseport) bound

  outside : Each (λ g. has_member a.name g ≡ false) flat.groups
  outside = in_no_group flat sound q s at not_sharing

  same_bucket : (owner_key a) % flat.header.shape.bind ≡ bucket
  same_bucket = ap (λ n. (owner_key a) % n) (sym om.count)

  joins : (o : Option ℕ) → mate_of s.owner flat.sockets ≡ o → groups_with flat s ≡ join bucket a.name o flat.groups
  joins o e =
      cond-true a.reuseport (join ((owner_key a) % flat.header.shape.bind) a.name (mate_of s.owner flat.sockets) flat.groups) (Some flat.groups) shares
      ∙ (ap (λ n. join n a.name (mate_of s.owner flat.sockets) flat.groups) same_bucket ∙ ap (λ o. join bucket a.name o flat.groups) e)

  by_free : (o : Option ℕ) → position is_free held.groups ≡ o → find (is_mate_of a) held.owners ≡ None → find (is_mate a) flat.sockets ≡ None → Decided t.buckets flat s
  by_free None free here there =
      let place : place_for held a ≡ None =
      ap (λ o. option_or (option_and_then (λ (m : Owner). position (is_member m.name) held.groups) o) (position is_free held.groups)) here ∙ free in
      none record {
        answer = inr (ap (group_answer bucket held) place);
        listed =
            joins None (ap (option_map (λ (m : Socket). m.owner.name)) there)
            ∙ ap (option_map (λ number. with_group a.name number flat.groups)) (free_is bucket held.groups flat.groups eight means filled ∙ ap (option_map (λ (i : ℕ). 8 * bucket + i)) free);
      }
  by_free (Some place) free here there =
      let at_place = position_within is_free held.groups place [] free in
      let l : place < 8 = omega (arith, at_place.0, eight) in
      let empty : get_or held.groups place [] ≡ [] = empty_members (get_or held.groups place []) at_place.1 in
      let number : ℕ = 8 * bucket + place in
      let nobody : members_of number flat.groups ≡ [] = sym (means place l) ∙ ap names_in empty in
      let unused : list_any (at_number number) flat.groups ≡ false =
      not_false_is (list_any (at_number number) flat.groups) (free_there bucket held.groups flat.groups eight means filled place l ∙ at_place.1) in
      room place (with_group a.name number flat.groups) record {
        there = ap (λ o. option_or (option_and_then (λ (m : Owner). position (is_member m.name) held.groups) o) (position is_free held.groups)) here ∙ free;
        below = l;
        less = omega (arith, ap (λ (ms : List ℕ). length ms) empty);
        listed =
            joins None (ap (option_map (λ (m : Socket). m.owner.name)) there)
            ∙ ap (option_map (λ number. with_group a.name number flat.groups)) (free_is bucket held.groups flat.groups eight means filled ∙ ap (option_map (λ (i : ℕ). 8 * bucket + i)) free);
        more = members_begun 0 a.name flat.groups number unused ∙ ap (λ l. l ++ a.name ∷ []) (sym nobody);
        others = λ n d. members_beside 0 a.name flat.groups n number d;
        extra = extra_begins a.name number flat.groups outside;
        extras = λ k d. extra_begun a.name k number flat.groups d;
      }

  full_is : (k : ℕ) (g : Group) (groups : List Group) (b : Bool) → (length g.members == group_room) ≡ b → find (has_member k) groups ≡ Some g → Each (λ y. has_member k y ≡ true → y ≡ g) groups → list_any (is_full_group k) groups ≡ b
  full_is k g groups true e found only =
      any_by_found (is_full_group k) (has_member k) g groups found (and_from (has_member k g) (length g.members == group_room) (found_passes (has_member k) groups g found) e)
  full_is k g groups false e found only =
      none_full k groups (find (is_full_group k) groups) refl g e only

  by_full : (s1 : Socket) (g : Group) (place : ℕ) (b : Bool) → (length g.members == group_room) ≡ b → place < 8 → 8 * bucket + place ≡ g.number → place_for held a ≡ Some place → length (members_at held place) ≡ length g.members
      → groups_with flat s ≡ join bucket a.name (Some s1.owner.name) flat.groups → list_any (is_full_group s1.owner.name) flat.groups ≡ (length g.members == group_room) → OnlyAt s1.owner.name g.number flat.groups → InGroup flat sound s1 g → Decided t.buckets flat s
  by_full s1 g place true e l number placed long joined full only1 g1 =
      let full_there : length (members_at held place) ≡ group_room = long ∙ eqb-true (length g.members) group_room e in
      none record {
        answer = inl (ap (group_answer bucket held) placed ∙ cond-false (ltb (length (members_at held place)) group_room) (answers.Group (Some (group_number bucket place))) answers.GroupFull (le-ltb (length (members_at held place)) group_room (omega (arith, full_there))));
        listed = joined ∙ cond-true (list_any (is_full_group s1.owner.name) flat.groups) None (Some (map (join_group s1.owner.name a.name) flat.groups)) (full ∙ e);
      }
  by_full s1 g place false e l number placed long joined full only1 g1 =
      room place (map (join_group s1.owner.name a.name) flat.groups) record {
        there = placed;
        below = l;
        less = omega (arith, long, below_room (length g.members) g1.of.most e);
        listed = joined ∙ cond-false (list_any (is_full_group s1.owner.name) flat.groups) None (Some (map (join_group s1.owner.name a.name) flat.groups)) (full ∙ e);
        more = subst (λ n. members_of n (map (join_group s1.owner.name a.name) flat.groups) ≡ members_of n flat.groups ++ a.name ∷ []) (sym number) (members_joined s1.owner.name a.name flat.groups g sound.grouped.numbers g1.found);
        others = λ n d. members_kept s1.owner.name a.name flat.groups n g.number only1 (λ e. d (e ∙ sym number));
        extra = extra_joins s1.owner.name a.name flat.groups outside ∙ (ap (λ o. option_map_or (λ (y : Group). y.number + 1) o 0) g1.found ∙ ap (λ n. n + 1) (sym number));
        extras = λ k d. extra_joined s1.owner.name a.name k flat.groups d;
      }

  -- the group of its mates
  by_mates : (x : Owner) (s0 s1 : Socket) (g : Group) → find (is_mate_of a) held.owners ≡ Some x → find (is_mate a) flat.sockets ≡ Some s1
      → x.name ≡ s0.owner.name → InGroup flat sound s0 g → IsMate a s0.owner → g.number / 8 ≡ bucket → InGroup flat sound s1 g → Decided t.buckets flat s
  by_mates x s0 s1 g here there named g0 m0 home g1 =
      let place : ℕ = g.number % 8 in
      let l : place < 8 = omega arith in
      let number : 8 * bucket + place ≡ g.number = omega (arith, home) in
      let only0 : OnlyAt s0.owner.name g.number flat.groups = each_weaken (λ y. has_member s0.owner.name y ≡ true → y ≡ g) (λ (y : Group). has_member s0.owner.name y ≡ true → y.number ≡ g.number) flat.groups (λ y f e. ap (λ (z : Group). z.number) (f e)) g0.only in
      let only1 : OnlyAt s1.owner.name g.number flat.groups = each_weaken (λ y. has_member s1.owner.name y ≡ true → y ≡ g) (λ (y : Group). has_member s1.owner.name y ≡ true → y.number ≡ g.number) flat.groups (λ y f e. ap (λ (z : Group). z.number) (f e)) g1.only in
      let placed : place_for held a ≡ Some place =
      ap (λ o. option_or (option_and_then (λ (m : Owner). position (is_member m.name) held.groups) o) (position is_free held.groups)) here
      ∙ (ap (λ n. option_or (position (is_member n) held.groups) (position is_free held.groups)) named
      ∙ ap (λ o. option_or o (position is_free held.groups)) (place_of_group bucket held.groups flat.groups eight means s0.owner.name g sound.grouped.numbers g0.found only0 home)) in
      let its : members_of (8 * bucket + place) flat.groups ≡ g.members = ap (λ n. members_of n flat.groups) number ∙ ap members_in (found_number (has_member s1.owner.name) g flat.groups sound.grouped.numbers g1.found) in
      let long : length (members_at held place) ≡ length g.members = sym (length-map (members_at held place) (λ m. m % 2 ^ 64)) ∙ ap (λ (ms : List ℕ). length ms) (means place l ∙ its) in
      let joined : groups_with flat s ≡ join bucket a.name (Some s1.owner.name) flat.groups = joins (Some s1.owner.name) (ap (option_map (λ (m : Socket). m.owner.name)) there) in
      let full : list_any (is_full_group s1.owner.name) flat.groups ≡ (length g.members == group_room) = full_is s1.owner.name g flat.groups (length g.members == group_room) refl g1.found g1.only in
      by_full s1 g place (length g.members == group_room) refl l number placed long joined full only1 g1

  by_mate : (o : Option Socket) → find (is_mate a) flat.sockets ≡ o → Decided t.buckets flat s
  by_mate None there =
      by_free (position is_free held.groups) refl (none_is (find (is_mate_of a) held.owners) (mates_alike t.buckets flat om some a ∙ ap is_some there)) there
  by_mate (Some s1) there =
      let x = some_of (find (is_mate_of a) held.owners) (mates_alike t.buckets flat om some a ∙ ap is_some there) in
      let s0 = mate_listed t.buckets flat om some a x.0 x.1 in
      let test : Socket → Bool = λ y. is_mate_of a y.owner && (y.owner.name == x.0.name) in
      let passes = and_parts (is_mate_of a s0.0.owner) (s0.0.owner.name == x.0.name) (found_passes test flat.sockets s0.0 s0.1) in
      let m0 : IsMate a s0.0.owner = mate_parts a s0.0.owner passes.0 in
      let m1 : IsMate a s1.owner = mate_parts a s1.owner (found_passes (is_mate a) flat.sockets s1 there) in
      let g = group_of_sharing flat sound test s0.0 s0.1 (sharing a s0.0 m0) in
      let home : (owner_key s0.0.owner) % flat.header.shape.bind ≡ g.0.number / 8 =
      each_found (λ (y : Socket). has_member y.owner.name g.0 ≡ true → (owner_key y.owner) % flat.header.shape.bind ≡ g.0.number / 8) test flat.sockets s0.0 g.1.of.bucket s0.1 (found_passes (has_member s0.0.owner.name) flat.groups g.0 g.1.found) in
      let has1 : has_member s1.owner.name g.0 ≡ true = same_group flat sound a test (is_mate a) s0.0 s1 g.0 s0.1 there m0 m1 g.1 in
      let h = group_of_sharing flat sound (is_mate a) s1 there (sharing a s1 m1) in
      let same : g.0 ≡ h.0 = each_found (λ y. has_member s1.owner.name y ≡ true → y ≡ h.0) (has_member s0.0.owner.name) flat.groups g.0 h.1.only g.1.found has1 in
      by_mates x.0 s0.0 s1 g.0 x.1 there (sym (eqb-true s0.0.owner.name x.0.name passes.1)) g.1 m0
      (sym home ∙ (ap (λ n. n % flat.header.shape.bind) (sym (mates_key a s0.0.owner m0)) ∙ same_bucket))
      (subst (InGroup flat sound s1) (sym same) h.1)

  -- the bucket decides as the list does
  pub decided : Decided t.buckets flat s
  decided = by_mate (find (is_mate a) flat.sockets) refl
