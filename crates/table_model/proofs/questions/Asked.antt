-- The buckets after a request to that of a port mean the list after it.
use Rattle.std.proofs.Common.{◌≡◌, ℕ, ◌+◌, ◌%◌, ◌≤◌, Bool, true, false, ◌&&◌, cond, List, [], ◌∷◌, ◌++◌, length, map, find, Some, ◌⊎◌, inl, inr, refl, ap, sym, ◌∙◌, subst, arith}
use Rattle.std.proofs.lemmas.Bool.{cases_Bool}
use Rattle.std.proofs.Math.Seq.{map-set_same}
use Rattle.list_words.specs.Lists.{Pairs, total}
use Rattle.list_words.proofs.EachLemmas.{each_push, some_same}
use Rattle.list_words.proofs.TotalLemmas.{total-append}
use Rattle.sock_card.specs.declared.owner.Owner.{Owner}
use Rattle.sock_card.specs.Conflict.{owner_key, is_time_wait}
use Rattle.bind_buckets.specs.declared.request.Request.{Request}
use Rattle.bind_buckets.specs.First.{change_first, drop_first}
use Rattle.bind_buckets.specs.Journal.{Standing, asked}
use Rattle.bind_buckets.specs.OwnerStep.{Held, After, owner_step, has_name as is_owner_named, waits_as}
use Rattle.flat_list.specs.declared.socket.Socket.{Socket}
use Rattle.flat_list.specs.Flat.{Flat}
use Rattle.flat_list.specs.Sockets.{is_owner, put, without}
use Rattle.flat_list.specs.Sound.{NamesDiffer}
use Rattle.bind_buckets.specs.BindHash.{standing_at, asked_at, untouched}
use Rattle.table_model.specs.Means.{OwnersMean, owns}
use Rattle.table_model.proofs.lists.Listed.{Listed, put_weighs, without_weighs}
use Rattle.table_model.proofs.lists.First.{change_weighs, drop_weighs, change_each, drop_each}
use Rattle.table_model.proofs.parts.Buckets.{AreOf, changed_means}
use Rattle.table_model.proofs.parts.FirstOfName.{stands}

-- the list with these sockets
abbrev pub with_sockets : Flat → List Socket → Flat
with_sockets flat sockets = record flat { sockets = sockets }

-- what the members of groups are in each bucket
abbrev pub groups_in : Standing → List (List ℕ)
groups_in s = s.held.groups

module _ {A : Type 0} (p q : A → Bool) where
  both_at : (x a : A) (xs : List A) → (p x ≡ true) ⊎ (p x ≡ false) → q a ≡ true → (find p xs ≡ Some a → find (λ y. p y && q y) xs ≡ Some a)
      → find p (x ∷ xs) ≡ Some a → find (λ y. p y && q y) (x ∷ xs) ≡ Some a
  both_at x a xs (inl e) is later h =
      let same : x ≡ a = some_same x a (rw e at h) in
      let is_x : q x ≡ true = ap q same ∙ is in
      let both : (p x && q x) ≡ true = rw (e, is_x) refl in
      ap (λ (b : Bool). cond b (Some x) (find (λ y. p y && q y) xs)) both ∙ ap (λ (y : A). Some y) same
  both_at x a xs (inr e) is later h =
      let neither : (p x && q x) ≡ false = rw e refl in
      ap (λ (b : Bool). cond b (Some x) (find (λ y. p y && q y) xs)) neither ∙ later (rw e at h)

  -- the first that passes one test passes both first, where it passes the other too
  pub both_pass : (a : A) (xs : List A) → q a ≡ true → find p xs ≡ Some a → find (λ y. p y && q y) xs ≡ Some a
  both_pass a [] is h = absurd (cc)
  both_pass a (x ∷ xs) is h = both_at x a xs (cases_Bool (p x)) is (both_pass a xs is) h

module _ (buckets : List Standing) (flat : Flat) (om : OwnersMean buckets flat) (some : 1 ≤ flat.header.shape.bind) where
  -- what the bucket of a port holds
  abbrev pub held_at : ℕ → Held
  held_at port = (standing_at buckets port).held

  -- and after a request
  abbrev pub step_at : ℕ → Request → After
  step_at port request = owner_step (port % length buckets) (held_at port) request

  -- owners that weigh as the list afterwards
  pub asked_means : (port : ℕ) (request : Request) (owners : List Owner) (sockets : List Socket) → (step_at port request).held.owners ≡ owners
      → ((f : Owner → ℕ) → total f owners + total (owns f) flat.sockets ≡ total f (held_at port).owners + total (owns f) sockets)
      → AreOf (length buckets) (port % length buckets) owners
      → OwnersMean (asked_at buckets port request) (with_sockets flat sockets)
  asked_means port request owners sockets is weighs are =
      changed_means buckets flat om some port (asked (port % length buckets) (standing_at buckets port) request) (with_sockets flat sockets) refl
      (λ f. ap (λ (x : List Owner). total f x + total (owns f) flat.sockets) is ∙ weighs f)
      (subst (AreOf (length buckets) (port % length buckets)) (sym is) are)

  -- the groups stay
  pub groups_stay : (port : ℕ) (request : Request) → (step_at port request).held.groups ≡ (held_at port).groups
      → map groups_in (asked_at buckets port request) ≡ map groups_in buckets
  groups_stay port request is =
      map-set_same groups_in buckets (port % length buckets) (asked (port % length buckets) (standing_at buckets port) request) untouched is

  -- nothing comes or goes
  pub kept_means : (port : ℕ) (request : Request) → (step_at port request).held ≡ held_at port → OwnersMean (asked_at buckets port request) flat
  kept_means port request is =
      asked_means port request (held_at port).owners flat.sockets (ap (λ (h : Held). h.owners) is) (λ f. refl) (om.keys port)

  module _ (names : Pairs NamesDiffer flat.sockets) where
    -- an owner comes, and one socket has become it
    pub came_means : (request : Request) (new s : Socket) → Listed new.owner.name flat.sockets s → is_owner s.owner.state ≡ false → is_owner new.owner.state ≡ true
        → (step_at (owner_key new.owner) request).held.owners ≡ (held_at (owner_key new.owner)).owners ++ new.owner ∷ []
        → OwnersMean (asked_at buckets (owner_key new.owner) request) (with_sockets flat (put new flat.sockets))
    came_means request new s at unbound bound is =
        let old : List Owner = (held_at (owner_key new.owner)).owners in
        asked_means (owner_key new.owner) request (old ++ new.owner ∷ []) (put new flat.sockets) is
        (λ f. omega (
          arith,
          total-append f old (new.owner ∷ []),
          put_weighs new (owns f) s flat.sockets names at,
          ap (λ (b : Bool). cond {A = ℕ} b (f s.owner) 0) unbound,
          ap (λ (b : Bool). cond {A = ℕ} b (f new.owner) 0) bound,
        ))
        (each_push (λ (a : Owner). (owner_key a) % length buckets ≡ owner_key new.owner % length buckets) old new.owner (om.keys (owner_key new.owner)) refl)

    -- an owner comes with a socket of its own
    pub joined_means : (request : Request) (port : ℕ) (new : Socket) → is_owner new.owner.state ≡ true → owner_key new.owner ≡ port
        → (step_at port request).held.owners ≡ (held_at port).owners ++ new.owner ∷ []
        → OwnersMean (asked_at buckets port request) (with_sockets flat (flat.sockets ++ new ∷ []))
    joined_means request port new bound there is =
        let old : List Owner = (held_at port).owners in
        asked_means port request (old ++ new.owner ∷ []) (flat.sockets ++ new ∷ []) is
        (λ f. omega (
          arith,
          total-append f old (new.owner ∷ []),
          total-append (owns f) flat.sockets (new ∷ []),
          ap (λ (b : Bool). cond {A = ℕ} b (f new.owner) 0) bound,
        ))
        (each_push (λ (a : Owner). (owner_key a) % length buckets ≡ port % length buckets) old new.owner (om.keys port) (ap (λ (p : ℕ). p % length buckets) there))

    module _ (name : ℕ) (s : Socket) (at : Listed name flat.sockets s) (owner : is_owner s.owner.state ≡ true) where
      -- the first of the name
      pub first : find (is_owner_named name) (held_at (owner_key s.owner)).owners ≡ Some s.owner
      first = stands buckets flat om some names name s at owner

      -- it becomes another, at the same port
      pub became_means : (request : Request) (change : Owner → Owner) (new : Socket)
          → (step_at (owner_key s.owner) request).held.owners ≡ change_first (is_owner_named name) change (held_at (owner_key s.owner)).owners
          → new.owner ≡ change s.owner → new.owner.name ≡ name → is_owner new.owner.state ≡ true → ((a : Owner) → owner_key (change a) ≡ owner_key a)
          → OwnersMean (asked_at buckets (owner_key s.owner) request) (with_sockets flat (put new flat.sockets))
      became_means request change new is becomes same bound stays =
          let old : List Owner = (held_at (owner_key s.owner)).owners in
          let listed : Listed new.owner.name flat.sockets s = subst (λ (k : ℕ). Listed k flat.sockets s) (sym same) at in
          asked_means (owner_key s.owner) request (change_first (is_owner_named name) change old) (put new flat.sockets) is
          (λ f. omega (
            arith,
            change_weighs (is_owner_named name) change f s.owner old first,
            put_weighs new (owns f) s flat.sockets names listed,
            ap (λ (b : Bool). cond {A = ℕ} b (f s.owner) 0) owner,
            ap (λ (b : Bool). cond {A = ℕ} b (f new.owner) 0) bound,
            ap f becomes,
          ))
          (change_each (is_owner_named name) (λ (a : Owner). (owner_key a) % length buckets ≡ owner_key s.owner % length buckets) change old
          (λ a e. ap (λ (p : ℕ). p % length buckets) (stays a) ∙ e) (om.keys (owner_key s.owner)))

      -- it goes, by a test that it is the first to pass
      pub gone_means : (request : Request) (test : Owner → Bool) → find test (held_at (owner_key s.owner)).owners ≡ Some s.owner
          → (step_at (owner_key s.owner) request).held.owners ≡ drop_first test (held_at (owner_key s.owner)).owners
          → OwnersMean (asked_at buckets (owner_key s.owner) request) (with_sockets flat (without name flat.sockets))
      gone_means request test passes is =
          let old : List Owner = (held_at (owner_key s.owner)).owners in
          asked_means (owner_key s.owner) request (drop_first test old) (without name flat.sockets) is
          (λ f. omega (
            arith,
            drop_weighs test f s.owner old passes,
            without_weighs name (owns f) s flat.sockets names at,
            ap (λ (b : Bool). cond {A = ℕ} b (f s.owner) 0) owner,
          ))
          (drop_each test (λ (a : Owner). (owner_key a) % length buckets ≡ owner_key s.owner % length buckets) old (om.keys (owner_key s.owner)))

      -- it is the first of the name in TIME_WAIT, where it waits
      pub first_waits : is_time_wait s.owner.state ≡ true → find (waits_as name) (held_at (owner_key s.owner)).owners ≡ Some s.owner
      first_waits waits = both_pass (is_owner_named name) (λ (a : Owner). is_time_wait a.state) s.owner (held_at (owner_key s.owner)).owners waits first
