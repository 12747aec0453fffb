-- Each allowed request leaves as many places, and no more members at each than there is room for.
use Rattle.std.proofs.Common.{◌≡◌, ℕ, ◌≤◌, ◌<◌, Bool, true, false, cond, ltb, List, [], ◌∷◌, length, get_or, find, Some, None, Option, arith, refl, ◌∙◌, ap, subst, zero, suc}
use Rattle.std.proofs.Math.ListN.{set}
use Rattle.std.proofs.lemmas.Bool.Decides.{nat_tests}
use Rattle.std.proofs.lemmas.List.{length-append, length-take, length-set}
use Rattle.list_words.specs.Lists.{Each}
use Rattle.sock_card.specs.Limits.{group_room}
use Rattle.sock_card.specs.declared.owner.Owner.{Owner}
use Rattle.sock_card.specs.Conflict.{overlap, refuses}
use Rattle.bind_buckets.specs.declared.request.Request.{Request}
use Rattle.bind_buckets.specs.declared.request.Request.TheVariants as requests
use Rattle.bind_buckets.specs.declared.request.Answer.TheVariants as answers
use Rattle.bind_buckets.specs.Limits.{group_places}
use Rattle.bind_buckets.specs.First.{change_first}
use Rattle.bind_buckets.specs.Members.{member, has_member, joined_by, without_member}
use Rattle.sock_card.specs.Became.{connected, child, as_waiting}
use Rattle.bind_buckets.specs.OwnerStep.{Held, After, owner_step, has_name, admitted, spoken, may_listen, listener_answer, group_answer, listening, with_member, place_for, members_at, changed, with_owner, removed, without_waiting, waits_as, others}
use Rattle.bind_buckets.specs.Bucket.{Bucket, IsAllowed, IsGroup, step_of}
use Rattle.bind_buckets.proofs.FirstPairs.{each_change}
use Rattle.bind_buckets.proofs.CanListen.{group_if_shared}

pub each_set : {A : Type 0} (P : A → Type 0) (xs : List A) (i : ℕ) (y : A) → Each P xs → P y → Each P (set xs i y)
each_set P [] i y p q = tt
each_set P (x ∷ xs) zero y p q = (q, p.1)
each_set P (x ∷ xs) (suc i) y p q = (p.0, each_set P xs i y p.1 q)

pub each_read : {A : Type 0} (P : A → Type 0) (xs : List A) (i : ℕ) (d : A) → Each P xs → P d → P (get_or xs i d)
each_read P [] i d p q = q
each_read P (x ∷ xs) zero d p q = p.0
each_read P (x ∷ xs) (suc i) d p q = each_read P xs i d p.1 q

abbrev pub Fits : List ℕ → Type 0
Fits members = length members ≤ group_room

fits_left : (name : ℕ) (members : List ℕ) → Fits members → Fits (without_member name members)
fits_left name members p = simp length-take (omega arith)

room_if_group : (b : Bool) (x : Option ℕ) (n : ℕ) → b ≡ ltb n group_room → IsGroup (cond b (answers.Group x) answers.GroupFull) → n < group_room
room_if_group true x n e g = grind (arith, nat_tests)
room_if_group false x n e g = absurd g

fits_with : (n : ℕ) (h : Held) (place : Option ℕ) (m : ℕ) → IsGroup (group_answer n h place) → Each Fits h.groups → Each Fits (with_member place m h.groups)
fits_with n h None m g p = p
fits_with n h (Some place) m g p =
    let room : length (members_at h place) < group_room = room_if_group _ _ _ refl g in
    each_set Fits h.groups place (joined_by m (members_at h place)) p (simp length-append (omega arith))

fits_joined : (n : ℕ) (h : Held) (a : Owner) (o : Option Owner) (b : Bool) (m : ℕ) → a.reuseport ≡ b → IsGroup (listener_answer n h a o) → Each Fits h.groups → Each Fits (cond b (with_member (place_for h a) m h.groups) h.groups)
fits_joined n h a o true m e g p =
    fits_with n h (place_for h a) m (group_if_shared n h a o e g) p
fits_joined n h a o false m e g p = p

-- what holds before a call on a name, and after it where the name is found
spoken_keeps : (P : List (List ℕ) → Type 0) (h : Held) (name : ℕ) (speak : Owner → After) (o : Option Owner) → P h.groups → ((a : Owner) → o ≡ Some a → P (speak a).held.groups) → P (spoken h name o speak).held.groups
spoken_keeps P h name speak None p q = p
spoken_keeps P h name speak (Some a) p q = q a refl

admitted_keeps : (P : List (List ℕ) → Type 0) (h : Held) (a : Owner) (o : Option Owner) → P h.groups → P (admitted h a o).held.groups
admitted_keeps P h a None p = p
admitted_keeps P h a (Some other) p = p

-- a group's list, with those of a listener that may join
listened : (b : Bucket) (name slot : ℕ) (a : Owner) → find (has_name name) b.held.owners ≡ Some a → IsAllowed b (requests.Listen name slot) → Each Fits b.held.groups → Each Fits (listening b.held name slot a).held.groups
unfolding owner_step
listened b name slot a e allowed p =
    let h = b.held in
    fits_joined b.number h a (find (refuses a) (others h name)) a.reuseport (member slot name) refl
    (subst (λ o. IsGroup (spoken h name o (may_listen b.number h name)).answer) e allowed) p

pub step_fits : (b : Bucket) (request : Request) → IsAllowed b request → Each Fits b.held.groups → Each Fits (step_of b request).held.groups
unfolding owner_step
step_fits b (requests.Bind a) allowed p = admitted_keeps (Each Fits) b.held a (find (refuses a) b.held.owners) p
step_fits b (requests.BindAuto a) allowed p = admitted_keeps (Each Fits) b.held a (find (overlap a) b.held.owners) p
step_fits b (requests.MayListen name) allowed p =
    spoken_keeps (Each Fits) b.held name (may_listen b.number b.held name) (find (has_name name) b.held.owners) p (λ a e. p)
step_fits b (requests.Listen name slot) allowed p =
    spoken_keeps (Each Fits) b.held name (listening b.held name slot) (find (has_name name) b.held.owners) p (λ a e. listened b name slot a e allowed p)
step_fits b (requests.Free port net) allowed p = p
step_fits b (requests.ConnectAuto a) allowed p = p
step_fits b (requests.ConnectBound name local remote rport) allowed p =
    let h = b.held in
    spoken_keeps (Each Fits) h name (λ _. changed h name (connected local remote rport) h.groups) (find (has_name name) h.owners) p (λ a e. p)
step_fits b (requests.Inherit parent name mark local remote rport) allowed p =
    let h = b.held in
    spoken_keeps (Each Fits) h parent (λ listener. with_owner h (child name mark local remote rport listener)) (find (has_name parent) h.owners) p (λ a e. p)
step_fits b (requests.ToTimeWait name) allowed p =
    let h = b.held in
    spoken_keeps (Each Fits) h name (λ _. changed h name as_waiting h.groups) (find (has_name name) h.owners) p (λ a e. p)
step_fits b (requests.RemoveWaiting name) allowed p =
    let h = b.held in
    spoken_keeps (Each Fits) h name (λ _. without_waiting h name) (find (waits_as name) h.owners) p (λ a e. p)
step_fits b (requests.Remove name) allowed p =
    let h = b.held in
    spoken_keeps (Each Fits) h name (λ _. removed h name) (find (has_name name) h.owners) p
    (λ a e. each_change (has_member name) Fits (without_member name) h.groups (fits_left name) p)

length_changed_by : {A : Type 0} (x y : A) (xs rest : List A) (b : Bool) → length rest ≡ length xs → length (cond b (y ∷ xs) (x ∷ rest)) ≡ suc (length xs)
length_changed_by x y xs rest true e = refl
length_changed_by x y xs rest false e = ap suc e

pub length-change_first : {A : Type 0} (is : A → Bool) (f : A → A) (xs : List A) → length (change_first is f xs) ≡ length xs
length-change_first is f [] = refl
length-change_first is f (x ∷ xs) =
    length_changed_by x (f x) xs (change_first is f xs) (is x) (length-change_first is f xs)

abbrev HasPlaces : List (List ℕ) → Type 0
HasPlaces groups = length groups ≡ group_places

places_with : (place : Option ℕ) (m : ℕ) (groups : List (List ℕ)) → HasPlaces groups → HasPlaces (with_member place m groups)
places_with None m groups p = p
places_with (Some place) m groups p = length-set groups place _ ∙ p

places_joined : (b : Bool) (place : Option ℕ) (m : ℕ) (groups : List (List ℕ)) → HasPlaces groups → HasPlaces (cond b (with_member place m groups) groups)
places_joined true place m groups p = places_with place m groups p
places_joined false place m groups p = p

pub step_places : (b : Bucket) (request : Request) → HasPlaces b.held.groups → HasPlaces (step_of b request).held.groups
unfolding owner_step
step_places b (requests.Bind a) p = admitted_keeps HasPlaces b.held a (find (refuses a) b.held.owners) p
step_places b (requests.BindAuto a) p = admitted_keeps HasPlaces b.held a (find (overlap a) b.held.owners) p
step_places b (requests.MayListen name) p =
    spoken_keeps HasPlaces b.held name (may_listen b.number b.held name) (find (has_name name) b.held.owners) p (λ a e. p)
step_places b (requests.Listen name slot) p =
    spoken_keeps HasPlaces b.held name (listening b.held name slot) (find (has_name name) b.held.owners) p
    (λ a e. places_joined a.reuseport (place_for b.held a) (member slot name) b.held.groups p)
step_places b (requests.Free port net) p = p
step_places b (requests.ConnectAuto a) p = p
step_places b (requests.ConnectBound name local remote rport) p =
    let h = b.held in
    spoken_keeps HasPlaces h name (λ _. changed h name (connected local remote rport) h.groups) (find (has_name name) h.owners) p (λ a e. p)
step_places b (requests.Inherit parent name mark local remote rport) p =
    let h = b.held in
    spoken_keeps HasPlaces h parent (λ listener. with_owner h (child name mark local remote rport listener)) (find (has_name parent) h.owners) p (λ a e. p)
step_places b (requests.ToTimeWait name) p =
    let h = b.held in
    spoken_keeps HasPlaces h name (λ _. changed h name as_waiting h.groups) (find (has_name name) h.owners) p (λ a e. p)
step_places b (requests.RemoveWaiting name) p =
    let h = b.held in
    spoken_keeps HasPlaces h name (λ _. without_waiting h name) (find (waits_as name) h.owners) p (λ a e. p)
step_places b (requests.Remove name) p =
    let h = b.held in
    spoken_keeps HasPlaces h name (λ _. removed h name) (find (has_name name) h.owners) p
    (λ a e. length-change_first (has_member name) (without_member name) h.groups ∙ p)
