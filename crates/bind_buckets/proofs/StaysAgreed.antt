-- Each allowed request keeps all owners in agreement, and their ports in the bucket.
use Rattle.std.proofs.Common.{◌≡◌, ℕ, Bool, true, false, not, ◌&&◌, ◌||◌, ◌==◌, List, [], ◌∷◌, find, Some, None, Option, IfSome, ◌++◌, refl, ◌∙◌, ap, subst, ◌⊎◌, ⊎_elim}
use Rattle.list_words.specs.Lists.{Each}
use Rattle.list_words.proofs.EachLemmas.{each_weaken, each_push, each_found, some_same}
use Rattle.list_words.proofs.PairsLemmas.{pairs_push, pairs_found}
use Rattle.sock_card.specs.declared.owner.Owner.{Owner}
use Rattle.sock_card.specs.declared.owner.State.{State}
use Rattle.sock_card.specs.declared.owner.State.TheVariants as states
use Rattle.sock_card.specs.Agreement.{Narrows}
use Rattle.sock_card.specs.Conflict.{agree, refuses, overlap, is_listening, is_time_wait, both_reuse_addr, both_reuse_port}
use Rattle.sock_card.proofs.Agreement.{agrees_both_ways, agrees_unless_refused, overlaps_who_refuses, agrees_by_origin, agrees_where_narrowed, refuses_as_listener}
use Rattle.bind_buckets.specs.declared.request.Request.{Request}
use Rattle.bind_buckets.specs.declared.request.Request.TheVariants as requests
use Rattle.bind_buckets.specs.First.{change_first, drop_first}
use Rattle.sock_card.specs.Became.{as_listener, connected, child, as_waiting}
use Rattle.sock_card.specs.Conflict.{holds, owner_key}
use Rattle.bind_buckets.specs.OwnerStep.{Held, After, owner_step, has_name, admitted, spoken, may_listen, listening, changed, with_owner, removed, without_waiting, waits_as}
use Rattle.bind_buckets.specs.Journal.{OwnersAgree}
use Rattle.bind_buckets.specs.Bucket.{Bucket, IsAllowed, IsGroup, StandsAt, is_key_of, step_of}
use Rattle.bind_buckets.proofs.FirstPairs.{each_unless_found, each_drop, each_change, pairs_drop, pairs_first, pairs_change}
use Rattle.bind_buckets.proofs.FreePort.{agrees_if_unheld, none_if_done}
use Rattle.bind_buckets.proofs.CanListen.{unrefused}

abbrev Agree : Owner → Owner → Type 0
Agree a b = agree a b ≡ true

swapped : (a b : Owner) → Agree a b → Agree b a
swapped a b h = agrees_both_ways b a ∙ h

-- what holds before a call on a name, and after it where the name is found
spoken_keeps : (P : List Owner → Type 0) (h : Held) (name : ℕ) (speak : Owner → After) (o : Option Owner) → P h.owners → ((a : Owner) → o ≡ Some a → P (speak a).held.owners) → P (spoken h name o speak).held.owners
spoken_keeps P h name speak None p q = p
spoken_keeps P h name speak (Some a) p q = q a refl

-- a newcomer that none keeps out
admitted_agrees : (h : Held) (a : Owner) (keeps_out : Owner → Bool) (o : Option Owner) → ((b : Owner) → keeps_out b ≡ false → Agree a b) → find keeps_out h.owners ≡ o → OwnersAgree h.owners → OwnersAgree (admitted h a o).held.owners
admitted_agrees h a keeps_out None same none p =
    pairs_push Agree h.owners a p
    (each_weaken (λ b. keeps_out b ≡ false) (λ b. Agree b a) h.owners (λ b r. swapped a b (same b r)) (each_unless_found keeps_out h.owners none))
admitted_agrees h a keeps_out (Some other) same some p = p

-- a newcomer for which `connect` chose a port that none holds
chosen_agrees : (owners : List Owner) (a : Owner) → a.by_connect ≡ true → find (holds a.port a.net) owners ≡ None → OwnersAgree owners → OwnersAgree (owners ++ a ∷ [])
chosen_agrees owners a chosen none p =
    pairs_push Agree owners a p
    (each_weaken (λ b. holds a.port a.net b ≡ false) (λ b. Agree b a) owners (λ b h. agrees_if_unheld a b chosen h) (each_unless_found (holds a.port a.net) owners none))

narrows_connected : (local remote rport : ℕ) (a : Owner) → StandsAt states.Bound local a → Narrows (connected local remote rport a) a
narrows_connected local remote rport a s = record {
  port = refl;
  net = refl;
  dev = refl;
  addr = s.addr;
  uid = refl;
  reuseaddr = refl;
  reuseport = refl;
  origin = refl;
  by_connect = refl;
  listening = refl;
  waiting = ap is_time_wait s.state;
}

narrows_child : (name mark local remote rport : ℕ) (a : Owner) → StandsAt states.Listening local a → Narrows (child name mark local remote rport a) a
narrows_child name mark local remote rport a s = record {
  port = refl;
  net = refl;
  dev = refl;
  addr = s.addr;
  uid = refl;
  reuseaddr = refl;
  reuseport = refl;
  origin = refl;
  by_connect = refl;
  listening = refl;
  waiting = ap is_time_wait s.state;
}

-- o who overlaps, ra both reuseaddr, l and m who listens, rp both reuseport, u same user, t and v who waits
still_agree : (o ra l m rp u t v x y : Bool) → (not o || ra && not (l && m) || rp && (u || t || v) || x || y) ≡ true → (not o || ra && not (false && m) || rp && (u || true || v) || x || y) ≡ true
still_agree false ra l m rp u t v x y h = refl
still_agree true true l m rp u t v x y h = refl
still_agree true false l m true true t v x y h = refl
still_agree true false l m true false t v x y h = refl
still_agree true false l m false u t v x y h = h

-- an owner in TIME_WAIT agrees with all that it agreed with before
agrees_waiting : (a b : Owner) → Agree a b → Agree (as_waiting a) b
unfolding agree overlap
agrees_waiting a b h =
    still_agree (overlap a b) (both_reuse_addr a b) (is_listening a.state) (is_listening b.state) (both_reuse_port a b)
    (a.uid == b.uid) (is_time_wait a.state) (is_time_wait b.state) (a.origin == b.origin) (a.by_connect && b.by_connect) h

-- the first of that name becomes what agrees with all that it agreed with
changed_agrees : (f : Owner → Owner) (owners : List Owner) (name : ℕ) (a : Owner) → ((b : Owner) → Agree a b → Agree (f a) b) → OwnersAgree owners → find (has_name name) owners ≡ Some a → OwnersAgree (change_first (has_name name) f owners)
changed_agrees f owners name a same p found =
    pairs_change (has_name name) Agree f owners a swapped p found
    (each_weaken (Agree a) (Agree (f a)) (drop_first (has_name name) owners) same (pairs_first (has_name name) Agree owners a swapped p found))

listening_agrees : (owners : List Owner) (name : ℕ) (a : Owner) → find (refuses a) (drop_first (has_name name) owners) ≡ None → OwnersAgree owners → find (has_name name) owners ≡ Some a → OwnersAgree (change_first (has_name name) as_listener owners)
listening_agrees owners name a none p found =
    pairs_change (has_name name) Agree as_listener owners a swapped p found
    (each_weaken (λ b. refuses a b ≡ false) (Agree (as_listener a)) (drop_first (has_name name) owners)
    (λ b r. agrees_unless_refused (as_listener a) b (refuses_as_listener a b ∙ r)) (each_unless_found (refuses a) (drop_first (has_name name) owners) none))

child_agrees : (owners : List Owner) (parent name mark local remote rport : ℕ) (a : Owner) → StandsAt states.Listening local a → OwnersAgree owners → find (has_name parent) owners ≡ Some a → OwnersAgree (owners ++ child name mark local remote rport a ∷ [])
child_agrees owners parent name mark local remote rport a s p found =
    let c = child name mark local remote rport a in
    pairs_push Agree owners c p
    (each_weaken (λ b. (b ≡ a) ⊎ Agree a b) (λ b. Agree b c) owners
    (λ b. ⊎_elim (λ same. agrees_by_origin b c (ap (λ (o : Owner). o.origin) same)) (λ r. swapped c b (agrees_where_narrowed c a b (narrows_child name mark local remote rport a s) r)))
    (pairs_found Agree (has_name parent) owners a swapped p found))

-- the one that is found stands so
stands : (state : State) (local : ℕ) (o : Option Owner) (a : Owner) → o ≡ Some a → IfSome o (StandsAt state local) → StandsAt state local a
stands state local None a e h = absurd (cc)
stands state local (Some b) a e h = subst (StandsAt state local) (some_same b a e) h

pub step_agrees : (b : Bucket) (request : Request) → IsAllowed b request → OwnersAgree b.held.owners → OwnersAgree (step_of b request).held.owners
unfolding owner_step
step_agrees b (requests.Bind a) allowed p =
    admitted_agrees b.held a (refuses a) (find (refuses a) b.held.owners) (agrees_unless_refused a) refl p
step_agrees b (requests.BindAuto a) allowed p =
    admitted_agrees b.held a (overlap a) (find (overlap a) b.held.owners) (λ o apart. agrees_unless_refused a o (overlaps_who_refuses a o apart)) refl p
step_agrees b (requests.MayListen name) allowed p =
    spoken_keeps OwnersAgree b.held name (may_listen b.number b.held name) (find (has_name name) b.held.owners) p (λ a e. p)
step_agrees b (requests.Listen name slot) allowed p =
    let h = b.held in
    spoken_keeps OwnersAgree h name (listening h name slot) (find (has_name name) h.owners) p
    (λ a e. listening_agrees h.owners name a
    (unrefused b.number h a _ (subst (λ o. IsGroup (spoken h name o (may_listen b.number h name)).answer) e allowed)) p e)
step_agrees b (requests.Free port net) allowed p = p
step_agrees b (requests.ConnectAuto a) allowed p =
    chosen_agrees b.held.owners a allowed.chosen (none_if_done (find (holds a.port a.net) b.held.owners) allowed.free) p
step_agrees b (requests.ConnectBound name local remote rport) allowed p =
    let h = b.held in
    let f = connected local remote rport in
    spoken_keeps OwnersAgree h name (λ _. changed h name f h.groups) (find (has_name name) h.owners) p
    (λ a e. changed_agrees f h.owners name a
    (λ c. agrees_where_narrowed (f a) a c (narrows_connected local remote rport a (stands states.Bound local _ a e allowed))) p e)
step_agrees b (requests.Inherit parent name mark local remote rport) allowed p =
    let h = b.held in
    spoken_keeps OwnersAgree h parent (λ listener. with_owner h (child name mark local remote rport listener)) (find (has_name parent) h.owners) p
    (λ a e. child_agrees h.owners parent name mark local remote rport a (stands states.Listening local _ a e allowed) p e)
step_agrees b (requests.ToTimeWait name) allowed p =
    let h = b.held in
    spoken_keeps OwnersAgree h name (λ _. changed h name as_waiting h.groups) (find (has_name name) h.owners) p
    (λ a e. changed_agrees as_waiting h.owners name a (agrees_waiting a) p e)
step_agrees b (requests.RemoveWaiting name) allowed p =
    let h = b.held in
    spoken_keeps OwnersAgree h name (λ _. without_waiting h name) (find (waits_as name) h.owners) p
    (λ a e. pairs_drop (waits_as name) Agree h.owners p)
step_agrees b (requests.Remove name) allowed p =
    let h = b.held in
    spoken_keeps OwnersAgree h name (λ _. removed h name) (find (has_name name) h.owners) p
    (λ a e. pairs_drop (has_name name) Agree h.owners p)

abbrev KeysOf : Bucket → List Owner → Type 0
KeysOf b owners = Each (λ (a : Owner). is_key_of b (owner_key a) ≡ true) owners

abbrev HasKey : Bucket → Owner → Type 0
HasKey b a = is_key_of b (owner_key a) ≡ true

admitted_keys : (b : Bucket) (a : Owner) (o : Option Owner) → HasKey b a → KeysOf b b.held.owners → KeysOf b (admitted b.held a o).held.owners
admitted_keys b a None h p = each_push (HasKey b) b.held.owners a p h
admitted_keys b a (Some other) h p = p

pub step_keys : (b : Bucket) (request : Request) → IsAllowed b request → KeysOf b b.held.owners → KeysOf b (step_of b request).held.owners
unfolding owner_step
step_keys b (requests.Bind a) allowed p = admitted_keys b a (find (refuses a) b.held.owners) allowed p
step_keys b (requests.BindAuto a) allowed p = admitted_keys b a (find (overlap a) b.held.owners) allowed p
step_keys b (requests.MayListen name) allowed p =
    spoken_keeps (KeysOf b) b.held name (may_listen b.number b.held name) (find (has_name name) b.held.owners) p (λ a e. p)
step_keys b (requests.Listen name slot) allowed p =
    let h = b.held in
    spoken_keeps (KeysOf b) h name (listening h name slot) (find (has_name name) h.owners) p
    (λ a e. each_change (has_name name) (HasKey b) as_listener h.owners (λ x q. q) p)
step_keys b (requests.Free port net) allowed p = p
step_keys b (requests.ConnectAuto a) allowed p = each_push (HasKey b) b.held.owners a p allowed.key
step_keys b (requests.ConnectBound name local remote rport) allowed p =
    let h = b.held in
    let f = connected local remote rport in
    spoken_keeps (KeysOf b) h name (λ _. changed h name f h.groups) (find (has_name name) h.owners) p
    (λ a e. each_change (has_name name) (HasKey b) f h.owners (λ x q. q) p)
step_keys b (requests.Inherit parent name mark local remote rport) allowed p =
    let h = b.held in
    spoken_keeps (KeysOf b) h parent (λ listener. with_owner h (child name mark local remote rport listener)) (find (has_name parent) h.owners) p
    (λ a e. each_push (HasKey b) h.owners (child name mark local remote rport a) p (each_found (HasKey b) (has_name parent) h.owners a p e))
step_keys b (requests.ToTimeWait name) allowed p =
    let h = b.held in
    spoken_keeps (KeysOf b) h name (λ _. changed h name as_waiting h.groups) (find (has_name name) h.owners) p
    (λ a e. each_change (has_name name) (HasKey b) as_waiting h.owners (λ x q. q) p)
step_keys b (requests.RemoveWaiting name) allowed p =
    let h = b.held in
    spoken_keeps (KeysOf b) h name (λ _. without_waiting h name) (find (waits_as name) h.owners) p
    (λ a e. each_drop (waits_as name) (HasKey b) h.owners p)
step_keys b (requests.Remove name) allowed p =
    let h = b.held in
    spoken_keeps (KeysOf b) h name (λ _. removed h name) (find (has_name name) h.owners) p
    (λ a e. each_drop (has_name name) (HasKey b) h.owners p)
