-- `reap`, carried out on tables that mean a list.
use Rattle.std.proofs.Common.{◌≡◌, ◌≢◌, ℕ, ◌%◌, ◌^◌, ◌==◌, Bool, true, false, not, ◌&&◌, ◌||◌, cond, List, [], ◌∷◌, ◌++◌, map, filter, find, Option, None, Some, refl, ap, sym, ◌∙◌, subst, arith}
use Rattle.std.proofs.lemmas.Bool.{and_parts, ne_eqb, eq-eqb, false_from_ne_true}
use Rattle.std.specs.Prelude.{is_some}
use Rattle.std.specs.List.{list_any}
use Rattle.list_words.specs.Lists.{Each, Pairs, total}
use Rattle.list_words.proofs.EachLemmas.{each_weaken, each_both, each_filter, each_found, each_unless_any, found_passes}
use Rattle.list_words.proofs.PairsLemmas.{pairs_filter}
use Rattle.sock_card.specs.declared.card.Card.{Card}
use Rattle.sock_card.specs.declared.card.Kind.{Kind}
use Rattle.sock_card.specs.declared.card.Kind.TheVariants as kinds
use Rattle.sock_card.specs.declared.owner.Owner.{Owner}
use Rattle.sock_card.specs.declared.owner.State.{State}
use Rattle.sock_card.specs.declared.owner.State.TheVariants as states
use Rattle.sock_card.specs.Conflict.{owner_key, is_time_wait}
use Rattle.sock_card.specs.TimeWait.{is_time_wait_kind}
use Rattle.bind_buckets.specs.declared.request.Request.TheVariants as requests
use Rattle.chain_book.specs.declared.outcome.Hashed.{Hashed}
use Rattle.chain_book.specs.declared.outcome.Place.{Place}
use Rattle.chain_book.specs.Chains.{Chains, row_at, home_in, has_slot, unhashed, waiting, waits_as}
use Rattle.flat_list.specs.declared.socket.Socket.{Socket}
use Rattle.flat_list.specs.Flat.{Flat}
use Rattle.flat_list.specs.Look.{extra_as}
use Rattle.flat_list.specs.Owned.{card_as}
use Rattle.flat_list.specs.Sockets.{is_owner, has_name, without, kind_of, is_open_in}
use Rattle.flat_list.specs.Sound.{NamesDiffer, IsAwakeIfNamed, IsInOneGroup}
use Rattle.table_model.specs.Tables.{Tables}
use Rattle.bind_buckets.specs.BindHash.{asked_at}
use Rattle.table_model.specs.Own.{Own, Mine}
use Rattle.table_model.specs.Means.{ChainsMean, TablesMean, OwnMeans, IsShape, StandsAs, is_wait_of, name_in, stands_in_some, weighs_as_wait}
use Rattle.table_model.proofs.lists.Listed.{Listed, listed_name, without_weighs}
use Rattle.table_model.proofs.lists.SameOwners.{same_owner}
use Rattle.table_model.proofs.questions.Asked.{with_sockets}
use Rattle.table_model.proofs.questions.Requests.{IsDone, remove_waiting_asked}
use Rattle.table_model.proofs.parts.WaitNames.{waits_differ, listed_there}
use Rattle.table_model.proofs.lists.Passing.{Only, only, nothing_at, total_same, total_zero, ind, Weighs, found_weighs}
use Rattle.table_model.proofs.parts.Chains.{holds, weighing, row_weigh}
use Rattle.table_model.proofs.parts.Cards.{card_weight, cards_weigh, weigh_as, only_named}
use Rattle.table_model.proofs.questions.Replaced.{some_found}
use Rattle.table_model.proofs.parts.Places.{StandsThere, stands_there, stands_test, left_means, stand_unhashed, no_such_name}
use Rattle.table_model.proofs.parts.MemberPlaces.{EachWord, words_both, words_differ, some_unhashed, wait_in_no_group, groups_kept}
use Rattle.table_model.proofs.parts.OwnWaits.{its_wait, own_wait_gone}
use Rattle.table_model.proofs.parts.Groups.{any_by_found}

-- 1 for the card of a TIME_WAIT of that name
abbrev pub waits_card : ℕ → Card → ℕ
waits_card k card = cond ((card.name == k) && is_time_wait_kind card.kind) 1 0

none_by : {A : Type 0} (o : Option A) (n : ℕ) → Weighs (is_some o) n → n ≡ 0 → o ≡ None
none_by None n h e = refl
none_by (Some x) n h e = absurd (omega (arith, h.0 refl, e))

module _ (c : Chains) (flat : Flat) (cm : ChainsMean c flat) where
  -- the TIME_WAITs of a name in a chain weigh as those of the list that have their home there
  waits_weigh : (k b : ℕ) → total (ind (waits_as k)) (row_at c b) ≡ total (card_weight flat.groups (only (λ card. home_in c card == b) (waits_card k))) flat.sockets
  waits_weigh k b =
      row_weigh c flat.header.shape flat.header.seed (weighing flat) (holds c flat cm) (waits_card k) b
      ∙ cards_weigh flat.groups (only (λ card. home_in c card == b) (waits_card k)) flat.sockets

  other_none : (k b : ℕ) (y : Socket) (kind : Option Kind) → has_name k y ≡ false → weigh_as (only (λ card. home_in c card == b) (waits_card k)) kind y.owner (λ x. extra_as x flat.groups y) ≡ 0
  other_none k b y None e = refl
  other_none k b y (Some kind) e =
      ap (λ (q : Bool). cond {A = ℕ} (home_in c (card_as kind y.owner (extra_as kind flat.groups y)) == b) (cond {A = ℕ} (q && is_time_wait_kind kind) 1 0) 0) e
      ∙ nothing_at (home_in c (card_as kind y.owner (extra_as kind flat.groups y)) == b)

  -- none of a name waits, where the list has none of it
  pub none_waits : (card : Card) → list_any (has_name card.name) flat.sockets ≡ false → waiting c card ≡ None
  none_waits card none =
      let b : ℕ = home_in c card in
      let zero : total (ind (waits_as card.name)) (row_at c b) ≡ 0 =
      waits_weigh card.name b
      ∙ total_zero (card_weight flat.groups (only (λ x. home_in c x == b) (waits_card card.name))) flat.sockets
      (each_weaken (λ (y : Socket). has_name card.name y ≡ false) (λ (y : Socket). card_weight flat.groups (only (λ x. home_in c x == b) (waits_card card.name)) y ≡ 0) flat.sockets
      (λ y e. other_none card.name b y (kind_of y.owner.state) e) (each_unless_any (has_name card.name) flat.sockets none)) in
      none_by (waiting c card) (total (ind (waits_as card.name)) (row_at c b)) (found_weighs (waits_as card.name) (row_at c b)) zero

  -- the list's waits in its chain
  pub one_waits : (s : Socket) → Pairs NamesDiffer flat.sockets → Listed s.owner.name flat.sockets s → s.owner.state ≡ states.TimeWait
      → (x : Hashed) × (waiting c (card_as kinds.TimeWait s.owner s.stamp) ≡ Some x)
  one_waits s names at waits =
      let card : Card = card_as kinds.TimeWait s.owner s.stamp in
      let b : ℕ = home_in c card in
      let f : Card → ℕ = only (λ x. home_in c x == b) (waits_card s.owner.name) in
      let its : card_weight flat.groups f s ≡ 1 =
      ap (λ (state : State). weigh_as f (kind_of state) s.owner (λ x. extra_as x flat.groups s)) waits
      ∙ (ap (λ (q : Bool). cond {A = ℕ} q (cond {A = ℕ} ((s.owner.name == s.owner.name) && true) 1 0) 0) (eq-eqb b b refl)
      ∙ ap (λ (q : Bool). cond {A = ℕ} (q && true) 1 0) (eq-eqb s.owner.name s.owner.name refl)) in
      some_found (waits_as s.owner.name) (row_at c b)
      (omega (arith, waits_weigh s.owner.name b, without_weighs s.owner.name (card_weight flat.groups f) s flat.sockets names at, its))

-- among a section's TIME_WAITs it is the one of its name
abbrev pub IsOne : List Mine → Mine → Type 0
IsOne ws w = (g : Mine → ℕ) → total (λ (x : Mine). cond {A = ℕ} (x.owner.name == w.owner.name) (g x) 0) ws ≡ g w

none_such : (k : ℕ) (g : Mine → ℕ) (ws : List Mine) → Each (λ (j : ℕ). k ≢ j) (map name_in ws) → total (λ (x : Mine). cond {A = ℕ} (x.owner.name == k) (g x) 0) ws ≡ 0
none_such k g [] h = refl
none_such k g (w ∷ ws) h =
    omega (arith, ap (λ (b : Bool). cond {A = ℕ} b (g w) 0) (ne_eqb w.owner.name k (λ q. h.0 (sym q))), none_such k g ws h.1)

one_more : (w x : Mine) (ws : List Mine) → w.owner.name ≢ x.owner.name → IsOne ws x → IsOne (w ∷ ws) x
one_more w x ws d h g = omega (arith, ap (λ (b : Bool). cond {A = ℕ} b (g w) 0) (ne_eqb w.owner.name x.owner.name d), h g)

named_each : (P : ℕ → Type 0) (ws : List Mine) → Each P (map name_in ws) → Each (λ (x : Mine). P x.owner.name) ws
named_each P [] h = tt
named_each P (w ∷ ws) h = (h.0, named_each P ws h.1)

-- where names differ, each is
pub all_one : (ws : List Mine) → Pairs (λ (a b : ℕ). a ≢ b) (map name_in ws) → Each (IsOne ws) ws
all_one [] h = tt
all_one (w ∷ ws) h = (
  λ g. omega (arith, ap (λ (b : Bool). cond {A = ℕ} b (g w) 0) (eq-eqb w.owner.name w.owner.name refl), none_such w.owner.name g ws h.0),
  each_weaken (λ (x : Mine). (w.owner.name ≢ x.owner.name) × IsOne ws x) (IsOne (w ∷ ws)) ws (λ x q. one_more w x ws q.0 q.1)
      (each_both (λ (x : Mine). w.owner.name ≢ x.owner.name) (IsOne ws) ws (named_each (λ (j : ℕ). w.owner.name ≢ j) ws h.0) (all_one ws h.1)),
)

-- of pairs, those of the last items
pub pairs_back : (R : ℕ → ℕ → Type 0) (xs ys : List ℕ) → Pairs R (xs ++ ys) → Pairs R ys
pairs_back R [] ys h = h
pairs_back R (x ∷ xs) ys h = pairs_back R xs ys h.1

-- who waits is in TIME_WAIT
pub is_waiting : (state : State) → is_time_wait state ≡ true → state ≡ states.TimeWait
is_waiting states.TimeWait h = refl
is_waiting states.Unbound h = absurd (cc)
is_waiting states.Bound h = absurd (cc)
is_waiting states.Listening h = absurd (cc)
is_waiting states.Full h = absurd (cc)
is_waiting states.Request h = absurd (cc)

swap_at : (b c : Bool) (v : ℕ) → cond {A = ℕ} c (cond {A = ℕ} b v 0) 0 ≡ cond {A = ℕ} b (cond {A = ℕ} c v 0) 0
swap_at true true v = refl
swap_at true false v = refl
swap_at false true v = refl
swap_at false false v = refl

bit_true : (b : Bool) → 1 ≡ cond {A = ℕ} b 1 0 → b ≡ true
bit_true true h = refl
bit_true false h = absurd (omega (arith, h))

any_by : {A : Type 0} (p : A → Bool) (x : A) (xs : List A) (b : Bool) → p x ≡ b → cond b (Some x) (find p xs) ≡ None → (find p xs ≡ None → list_any p xs ≡ false) → (b || list_any p xs) ≡ false
any_by p x xs true e h later = absurd (cc)
any_by p x xs false e h later = later h

-- where none is found, none is there
pub none_there : {A : Type 0} (p : A → Bool) (xs : List A) → find p xs ≡ None → list_any p xs ≡ false
none_there p [] h = refl
none_there p (x ∷ xs) h = any_by p x xs (p x) refl h (none_there p xs)

kept_at : (k : ℕ) (q : Socket → Bool) (x : Socket) (ys zs : List Socket) (b : Bool) → has_name k x ≡ b → (has_name k x ≡ true → q x ≡ false) → filter q ys ≡ filter q zs
    → filter q (cond (not b) (x ∷ ys) ys) ≡ cond (q x) (x ∷ filter q zs) (filter q zs)
kept_at k q x ys zs true e h same = same ∙ sym (ap (λ (b : Bool). cond b (x ∷ filter q zs) (filter q zs)) (h e))
kept_at k q x ys zs false e h same = ap (λ l. cond (q x) (x ∷ l) l) same

-- one that isn't kept is gone
pub filter_without : (k : ℕ) (q : Socket → Bool) (xs : List Socket) → Each (λ (x : Socket). has_name k x ≡ true → q x ≡ false) xs → filter q (without k xs) ≡ filter q xs
filter_without k q [] h = refl
filter_without k q (x ∷ xs) h = kept_at k q x (without k xs) xs (has_name k x) refl h.0 (filter_without k q xs h.1)

none_dropped : (q : Socket → Bool) (x : Socket) (ys zs : List Socket) (b : Bool) → q x ≡ b → cond {A = ℕ} b 1 0 ≡ 0 → ys ≡ zs → cond (not b) (x ∷ ys) ys ≡ x ∷ zs
none_dropped q x ys zs true e h same = absurd (omega (arith, h))
none_dropped q x ys zs false e h same = ap (λ l. x ∷ l) same

-- where none passes, all are kept
pub all_kept : (q : Socket → Bool) (xs : List Socket) → total (ind q) xs ≡ 0 → filter (λ x. not (q x)) xs ≡ xs
all_kept q [] h = refl
all_kept q (x ∷ xs) h = none_dropped q x (filter (λ y. not (q y)) xs) xs (q x) refl (omega (arith, h)) (all_kept q xs (omega (arith, h)))

module _ (n : ℕ) (own : Own) (base : Flat) (shape : IsShape base.header) where
  -- the list with these sockets
  abbrev pub at : List Socket → Flat
  at xs = with_sockets base xs

  -- what stays as TIME_WAITs go
  pub record Kept (t : Tables) (xs : List Socket) : Type 0 where
    pub tables : TablesMean t (at xs)
    pub own_is : OwnMeans n own t (at xs)
    pub names : Pairs NamesDiffer xs
    pub awake : Each IsAwakeIfNamed xs
    pub sharing : Each (IsInOneGroup base.groups) xs

  -- a TIME_WAIT of the section's, and the list's socket of its name
  pub record WaitIs (w : Mine) (s : Socket) : Type 0 where
    pub waits : is_wait_of n s ≡ true
    pub owner : w.owner ≡ s.owner
    pub stamp : w.extra ≡ s.stamp
    pub shut : is_open_in n s ≡ false

  -- what the section knows of it is what the list says
  pub wait_is : (t : Tables) (xs : List Socket) → Kept t xs → (w : Mine) → IsOne own.waits w → (s : Socket) → Listed w.owner.name xs s → WaitIs w s
  wait_is t xs k w one s found =
      let shut : is_open_in n s ≡ false =
      false_from_ne_true (is_open_in n s) (λ mine. absurd (let z : total (λ (x : Mine). cond {A = ℕ} (x.owner.name == w.owner.name) 1 0) own.waits ≡ 0 = none_such w.owner.name (λ (x : Mine). 1) own.waits (waits_differ n own t (at xs) w.owner.name s k.own_is found mine) in let o : total (λ (x : Mine). cond {A = ℕ} (x.owner.name == w.owner.name) 1 0) own.waits ≡ 1 = one (λ (x : Mine). 1) in omega (arith, z, o))) in
      let weighs : (f : Owner → ℕ → ℕ) → f w.owner w.extra ≡ weighs_as_wait f n s = λ f.
      let there : Mine → ℕ = λ x. cond (list_any (has_name x.owner.name) xs) (f x.owner x.extra) 0 in
      sym (ap (λ (b : Bool). cond {A = ℕ} b (f w.owner w.extra) 0) (listed_there w.owner.name xs s found))
      ∙ (sym (one there)
      ∙ (total_same (λ (x : Mine). cond {A = ℕ} (x.owner.name == w.owner.name) (there x) 0) (λ (x : Mine). cond {A = ℕ} (list_any (has_name x.owner.name) xs) (cond {A = ℕ} (x.owner.name == w.owner.name) (f x.owner x.extra) 0) 0) own.waits
      (λ x. swap_at (list_any (has_name x.owner.name) xs) (x.owner.name == w.owner.name) (f x.owner x.extra))
      ∙ its_wait n own t t (at xs) k.own_is w.owner.name s (only_named (has_name w.owner.name) xs s w.owner.name found (listed_name w.owner.name xs s found) k.names) shut f)) in
      let waits : is_wait_of n s ≡ true = bit_true (is_wait_of n s) (weighs (λ a e. 1)) in
      let counts : (f : Owner → ℕ → ℕ) → f w.owner w.extra ≡ f s.owner s.stamp = λ f. weighs f ∙ ap (λ (b : Bool). cond {A = ℕ} b (f s.owner s.stamp) 0) waits in
      record { waits = waits; owner = same_owner w.owner s.owner (λ f. counts (λ a e. f a)); stamp = counts (λ a e. e); shut = shut }

  -- one of them goes
  module _ (t : Tables) (xs : List Socket) (k : Kept t xs) (s : Socket) (place : Place) (found : Listed s.owner.name xs s) (waits : s.owner.state ≡ states.TimeWait) (shut : is_open_in n s ≡ false) where
    abbrev name : ℕ
    name = s.owner.name

    abbrev pub card : Card
    card = card_as kinds.TimeWait s.owner s.stamp

    -- it stands in its chain
    pub hashed_there : (x : Hashed) × (waiting t.chains card ≡ Some x)
    hashed_there = one_waits t.chains (at xs) k.tables.chains s k.names found waits

    abbrev its_place : Place
    its_place = record { bucket = home_in t.chains card; slot = hashed_there.0.slot }

    abbrev stood : Mine
    stood = record { owner = s.owner; extra = s.stamp; place = its_place }

    stands : StandsAs t.chains stood (Some kinds.TimeWait)
    stands =
        let x : Hashed = hashed_there.0 in
        let parts = and_parts (x.card.name == name) (is_time_wait_kind x.card.kind) (found_passes (waits_as name) (row_at t.chains (home_in t.chains card)) x hashed_there.1) in
        let here : (has_slot x.slot x && (x.card.name == name)) ≡ true = rw (eq-eqb x.slot x.slot refl, parts.0) refl in
        (any_by_found (stands_test stood) (waits_as name) x (row_at t.chains (home_in t.chains card)) hashed_there.1 here, refl)

    abbrev pub chains_after : Chains
    chains_after = unhashed t.chains its_place

    abbrev pub tables_after : Tables
    tables_after = record { buckets = asked_at t.buckets (owner_key s.owner) (requests.RemoveWaiting name); chains = chains_after }

    there : (x : Hashed) × StandsThere t.chains stood x
    there = stands_there t.chains stood kinds.TimeWait stands

    only_it : Only (has_name name) s xs
    only_it = only_named (has_name name) xs s name found refl k.names

    other_stands : (m : Mine) → name ≢ m.owner.name → StandsAs t.chains m (kind_of m.owner.state) → StandsAs chains_after m (kind_of m.owner.state)
    other_stands m d st =
        subst (λ (j : ℕ). StandsAs (unhashed t.chains (record { bucket = its_place.bucket; slot = j })) m (kind_of m.owner.state)) there.1.slot
        (stand_unhashed t.chains base.header.shape base.header.seed (weighing (at xs)) (holds t.chains (at xs) k.tables.chains) its_place.bucket (stands_test stood) there.0 there.1.found m
        (λ q. d (sym there.1.name ∙ q)) (kind_of m.owner.state) st)

    words : EachWord (λ m. stands_in_some m chains_after.rows ≡ true) t.buckets
    words =
        words_both (λ m. stands_in_some m t.chains.rows ≡ true) (λ m. name ≢ m % 2 ^ 64) (λ m. stands_in_some m chains_after.rows ≡ true) t.buckets
        (λ m st d.
        subst (λ (j : ℕ). stands_in_some m (unhashed t.chains (record { bucket = its_place.bucket; slot = j })).rows ≡ true) there.1.slot
        (some_unhashed t.chains base.header.shape base.header.seed (weighing (at xs)) (holds t.chains (at xs) k.tables.chains) its_place.bucket (stands_test stood) there.0 there.1.found m
        (λ q. d (sym there.1.name ∙ q)) st))
        k.tables.groups.stand
        (words_differ t (at xs) name k.tables.groups (wait_in_no_group (at xs) s (each_found (IsInOneGroup base.groups) (has_name name) xs s k.sharing found) (ap is_time_wait waits)))

    its_leave : IsDone t.buckets (owner_key s.owner) (requests.RemoveWaiting name) (at (without name xs))
    its_leave = remove_waiting_asked t.buckets (at xs) k.tables.owners shape.bind k.names name s found (ap is_owner waits) (ap is_time_wait waits)

    -- what stayed stays
    pub kept_after : Kept tables_after (without name xs)
    kept_after = record {
      tables = record {
        owners = its_leave.left.owners;
        chains = left_means t.chains (at xs) (at (without name xs)) stood kinds.TimeWait s k.tables.chains refl stands only_it
            (λ f. omega (
              arith,
              cards_weigh base.groups f (without name xs),
              cards_weigh base.groups f xs,
              without_weighs name (card_weight base.groups f) s xs k.names found,
            ));
        groups = groups_kept t tables_after (at xs) (at (without name xs)) k.tables.groups its_leave.left.groups refl words;
      };
      own_is = own_wait_gone n own t tables_after (at xs) k.own_is name s only_it shut
          (each_weaken (λ (m : Mine). (name ≢ m.owner.name) × StandsAs t.chains m (kind_of m.owner.state)) (λ (m : Mine). StandsAs chains_after m (kind_of m.owner.state)) own.sockets
          (λ m q. other_stands m q.0 q.1)
          (each_both (λ (m : Mine). name ≢ m.owner.name) (λ (m : Mine). StandsAs t.chains m (kind_of m.owner.state)) own.sockets
          (no_such_name n name s xs own.sockets only_it shut k.own_is.sockets) k.own_is.stand));
      names = pairs_filter NamesDiffer (λ (x : Socket). not (has_name name x)) xs k.names;
      awake = each_filter IsAwakeIfNamed (λ (x : Socket). not (has_name name x)) xs k.awake;
      sharing = each_filter (IsInOneGroup base.groups) (λ (x : Socket). not (has_name name x)) xs k.sharing;
    }
