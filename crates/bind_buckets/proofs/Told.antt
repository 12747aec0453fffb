-- What a call's answer says of the bucket before it, and after.
use Rattle.std.proofs.Common.{◌≡◌, ℕ, ◌≤◌, Bool, true, false, cond, ltb, [], length, find, Some, None, Option, Result, Ok, Err, IfErr, OnOk, OnErr, MatchOption, arith, refl, sym, subst}
use Rattle.std.specs.Option.{option_map}
use Rattle.std.proofs.lemmas.Bool.Decides.{nat_tests}
use Rattle.list_words.specs.Lists.{Each}
use Rattle.sock_card.specs.Limits.{group_room}
use Rattle.sock_card.specs.declared.owner.Owner.{Owner}
use Rattle.sock_card.specs.Conflict.{refuses}
use Rattle.bind_buckets.specs.declared.request.Answer.{Answer}
use Rattle.bind_buckets.specs.declared.request.Answer.TheVariants as answers
use Rattle.bind_buckets.specs.declared.request.Request.TheVariants as requests
use Rattle.bind_buckets.specs.declared.request.InUse.{InUse}
use Rattle.bind_buckets.specs.declared.request.Strange.{Strange}
use Rattle.bind_buckets.specs.declared.request.ListenEnd.{ListenEnd}
use Rattle.bind_buckets.specs.declared.request.ListenEnd.TheVariants as ends
use Rattle.bind_buckets.specs.First.{change_first}
use Rattle.sock_card.specs.Became.{as_listener}
use Rattle.bind_buckets.specs.OwnerStep.{Held, After, owner_step, has_name, waits_as, with_last, changed, without_waiting, admitted, spoken, may_listen, listener_answer, group_answer, group_number, listening, place_for, members_at, others}
use Rattle.bind_buckets.specs.Bucket.{Bucket, IsGroup, CanListen, called, answer_to, step_of}
use Rattle.bind_buckets.specs.Answers.{answer_of_bind, answer_of_name, answer_of_listen, answer_of_end, IsOfBind, IsOfName, IsOfListen, told_of, KnowsOrSays, KnowsWaitingOrSays, Hinders}
use Rattle.bind_buckets.proofs.StaysGrouped.{each_read, Fits}

module _ (h : Held) (a : Owner) where
  pub bind_answers : (o : Option Owner) → IsOfBind (admitted h a o).answer
  bind_answers None = tt
  bind_answers (Some other) = tt

  pub bound : (o : Option Owner) (r : Result (Unit {0}) InUse) → answer_of_bind r ≡ (admitted h a o).answer → OnOk r ((admitted h a o).held ≡ with_last h a)
  bound None (Ok u) e = refl
  bound None (Err end) e = tt
  bound (Some other) (Ok u) e = absurd (cc)
  bound (Some other) (Err end) e = tt

  pub unbound : (o : Option Owner) (r : Result (Unit {0}) InUse) → answer_of_bind r ≡ (admitted h a o).answer → OnErr r ((admitted h a o).held ≡ h)
  unbound o (Ok u) e = tt
  unbound None (Err end) e = absurd (cc)
  unbound (Some other) (Err end) e = refl

  pub in_use : (o : Option Owner) (r : Result (Unit {0}) InUse) → answer_of_bind r ≡ (admitted h a o).answer → told_of r ≡ option_map (λ (x : Owner). x.name) o
  in_use None (Ok u) e = refl
  in_use None (Err end) e = absurd (cc)
  in_use (Some other) (Ok u) e = absurd (cc)
  in_use (Some other) (Err end) e = let same : end.0 ≡ other.name = cc in cc

-- a call on a name that is Done where the name is found
module _ (h : Held) (name : ℕ) (speak : Owner → After) (is_done : (a : Owner) → (speak a).answer ≡ answers.Done) where
  pub name_answers : (o : Option Owner) → IsOfName (spoken h name o speak).answer
  name_answers None = tt
  name_answers (Some a) = rw (is_done a) tt

  pub spoken_ok : (P : After → Type 0) (o : Option Owner) (r : Result (Unit {0}) Strange) → ((a : Owner) → o ≡ Some a → P (speak a)) → answer_of_name r ≡ (spoken h name o speak).answer → OnOk r (P (spoken h name o speak))
  spoken_ok P o (Err end) p e = tt
  spoken_ok P None (Ok u) p e = absurd (cc)
  spoken_ok P (Some a) (Ok u) p e = p a refl

  pub spoken_err : (o : Option Owner) (r : Result (Unit {0}) Strange) → answer_of_name r ≡ (spoken h name o speak).answer → OnErr r ((spoken h name o speak).held ≡ h)
  spoken_err o (Ok u) e = tt
  spoken_err None (Err end) e = refl
  spoken_err (Some a) (Err end) e = absurd (let done = is_done a in cc)

  pub strange_by : (o : Option Owner) (r : Result (Unit {0}) Strange) → find (has_name name) h.owners ≡ o → answer_of_name r ≡ (spoken h name o speak).answer → KnowsOrSays name h.owners r
  strange_by None (Ok u) q e = absurd (cc)
  strange_by None (Err end) q e = let same : end.0 ≡ name = cc in record { named = same; none = q }
  strange_by (Some a) (Ok u) q e = rw q refl
  strange_by (Some a) (Err end) q e = absurd (let done = is_done a in cc)

  pub strange_unless_waiting : (o : Option Owner) (r : Result (Unit {0}) Strange) → find (waits_as name) h.owners ≡ o → answer_of_name r ≡ (spoken h name o speak).answer → KnowsWaitingOrSays name h.owners r
  strange_unless_waiting None (Ok u) q e = absurd (cc)
  strange_unless_waiting None (Err end) q e = let same : end.0 ≡ name = cc in record { named = same; none = q }
  strange_unless_waiting (Some a) (Ok u) q e = rw q refl
  strange_unless_waiting (Some a) (Err end) q e = absurd (let done = is_done a in cc)

pub same_groups : (h : Held) (name : ℕ) (f : Owner → Owner) (o : Option Owner) → (spoken h name o (λ _. changed h name f h.groups)).held.groups ≡ h.groups
same_groups h name f None = refl
same_groups h name f (Some a) = refl

pub groups_without : (h : Held) (name : ℕ) (o : Option Owner) → (spoken h name o (λ _. without_waiting h name)).held.groups ≡ h.groups
groups_without h name None = refl
groups_without h name (Some a) = refl

cond_listens : (b : Bool) (x y : Answer) → IsOfListen x → IsOfListen y → IsOfListen (cond b x y)
cond_listens true x y p q = p
cond_listens false x y p q = q

group_answers : (n : ℕ) (h : Held) (place : Option ℕ) → IsOfListen (group_answer n h place)
group_answers n h None = tt
group_answers n h (Some place) =
    cond_listens (ltb (length (members_at h place)) group_room) (answers.Group (Some (group_number n place))) answers.GroupFull tt tt

listener_answers : (n : ℕ) (h : Held) (a : Owner) (o : Option Owner) → IsOfListen (listener_answer n h a o)
listener_answers n h a (Some other) = tt
listener_answers n h a None =
    cond_listens a.reuseport (group_answer n h (place_for h a)) (answers.Group None) (group_answers n h (place_for h a)) tt

pub listen_answers : (n : ℕ) (h : Held) (name : ℕ) (o : Option Owner) → IsOfListen (spoken h name o (may_listen n h name)).answer
listen_answers n h name None = tt
listen_answers n h name (Some a) = listener_answers n h a (find (refuses a) (others h name))

pub asked : (n : ℕ) (h : Held) (name : ℕ) (o : Option Owner) → (spoken h name o (may_listen n h name)).held ≡ h
asked n h name None = refl
asked n h name (Some a) = refl

-- to ask whether one may listen changes nothing
pub listens_held : (n : ℕ) (h : Held) (name : ℕ) → (owner_step n h (requests.MayListen name)).held ≡ h
unfolding owner_step
listens_held n h name = asked n h name (find (has_name name) h.owners)

pub asked_step : (b : Bucket) (name : ℕ) → (step_of b (requests.MayListen name)).held ≡ b.held
unfolding owner_step
asked_step b name = asked b.number b.held name (find (has_name name) b.held.owners)

-- a socket that may listen is there, and becomes a listener
pub listens : (n : ℕ) (h : Held) (name slot : ℕ) (o : Option Owner) → IsGroup (spoken h name o (may_listen n h name)).answer → (spoken h name o (listening h name slot)).held.owners ≡ change_first (has_name name) as_listener h.owners
listens n h name slot None g = absurd g
listens n h name slot (Some a) g = refl

pub listens_done : (n : ℕ) (h : Held) (name slot : ℕ) (o : Option Owner) → IsGroup (spoken h name o (may_listen n h name)).answer → (spoken h name o (listening h name slot)).answer ≡ answers.Done
listens_done n h name slot None g = absurd g
listens_done n h name slot (Some a) g = refl

group_if_ok : (answer : Answer) (group : Option ℕ) → answers.Group group ≡ answer → IsGroup answer
group_if_ok answer group e = subst IsGroup e tt

pub may_now : (b : Bucket) (name : ℕ) (r : Result (Option ℕ) ListenEnd) → answer_of_listen r ≡ answer_to b (requests.MayListen name) → OnOk r (CanListen (called b (requests.MayListen name)) name)
may_now b name (Err end) e = tt
may_now b name (Ok group) e =
    subst (λ h. IsGroup (owner_step b.number h (requests.MayListen name)).answer) (sym (asked_step b name)) (group_if_ok _ group e)

no_group : (end : ListenEnd) (group : Option ℕ) → answer_of_end end ≡ answers.Group group → ⊥
no_group (ends.InUse name) group e = absurd (cc)
no_group ends.GroupFull group e = absurd (cc)
no_group ends.GroupsFull group e = absurd (cc)
no_group (ends.Strange name) group e = absurd (cc)

is_shared : (end : ListenEnd) (b : Bool) (x : Answer) → answer_of_end end ≡ cond b x (answers.Group None) → answer_of_end end ≡ x
is_shared end true x e = e
is_shared end false x e = absurd (no_group end None e)

module _ (n : ℕ) (h : Held) (name : ℕ) (a : Owner) where
  no_place : (end : ListenEnd) → place_for h a ≡ None → answer_of_end end ≡ answers.GroupsFull → Hinders h name a end
  no_place (ends.InUse other) q e = absurd (cc)
  no_place ends.GroupFull q e = absurd (cc)
  no_place ends.GroupsFull q e = q
  no_place (ends.Strange other) q e = absurd (cc)

  full : (end : ListenEnd) (place : ℕ) → place_for h a ≡ Some place → length (members_at h place) ≡ group_room → answer_of_end end ≡ answers.GroupFull → Hinders h name a end
  full (ends.InUse other) place q most e = absurd (cc)
  full ends.GroupFull place q most e = rw q most
  full ends.GroupsFull place q most e = absurd (cc)
  full (ends.Strange other) place q most e = absurd (cc)

  full_by : (end : ListenEnd) (place : ℕ) (b : Bool) (group : Option ℕ) → b ≡ ltb (length (members_at h place)) group_room → place_for h a ≡ Some place → length (members_at h place) ≤ group_room → answer_of_end end ≡ cond b (answers.Group group) answers.GroupFull → Hinders h name a end
  full_by end place true group is q most e = absurd (no_group end group e)
  full_by end place false group is q most e =
      let full_there : length (members_at h place) ≡ group_room = grind (arith, nat_tests) in full end place q full_there e

  group_hinders : (end : ListenEnd) (place : Option ℕ) → place_for h a ≡ place → Each Fits h.groups → answer_of_end end ≡ group_answer n h place → Hinders h name a end
  group_hinders end None q fits e = no_place end q e
  group_hinders end (Some place) q fits e =
      let none : 0 ≤ group_room = omega arith in
      full_by end place _ _ refl q (each_read Fits h.groups place [] fits none) e

  refused : (end : ListenEnd) (other : Owner) → find (refuses a) (others h name) ≡ Some other → answer_of_end end ≡ answers.InUse other.name → Hinders h name a end
  refused (ends.InUse x) other q e = let same : other.name ≡ x = cc in rw (q, same) refl
  refused ends.GroupFull other q e = absurd (cc)
  refused ends.GroupsFull other q e = absurd (cc)
  refused (ends.Strange x) other q e = absurd (cc)

  hinders : (end : ListenEnd) (o : Option Owner) → find (refuses a) (others h name) ≡ o → Each Fits h.groups → answer_of_end end ≡ listener_answer n h a o → Hinders h name a end
  hinders end (Some other) q fits e = refused end other q e
  hinders end None q fits e = group_hinders end (place_for h a) refl fits (is_shared end a.reuseport _ e)

strange_end : (end : ListenEnd) (name : ℕ) → answer_of_end end ≡ answers.Strange name → end ≡ ends.Strange name
strange_end (ends.InUse other) name e = absurd (cc)
strange_end ends.GroupFull name e = absurd (cc)
strange_end ends.GroupsFull name e = absurd (cc)
strange_end (ends.Strange other) name e = let same : other ≡ name = cc in rw same refl

pub why : (n : ℕ) (h : Held) (name : ℕ) (o : Option Owner) (r : Result (Option ℕ) ListenEnd) → Each Fits h.groups → answer_of_listen r ≡ (spoken h name o (may_listen n h name)).answer → IfErr r (λ end. MatchOption o (end ≡ ends.Strange name) (λ a. Hinders h name a end))
why n h name o (Ok group) fits e = tt
why n h name None (Err end) fits e = strange_end end name e
why n h name (Some a) (Err end) fits e = hinders n h name a end (find (refuses a) (others h name)) refl fits e
