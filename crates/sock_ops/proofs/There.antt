-- Calls on an owner that its bucket has.
use Rattle.std.proofs.Common.{◌≡◌, ℕ, ◌<◌, Bool, true, false, cond, List, [], ◌∷◌, ◌++◌, find, Some, None, Option, Result, Ok, Err, IfOk, ltb, length, refl, sym, ap, subst, ◌∙◌, append_assoc, arith}
use Rattle.std.proofs.lemmas.List.{map-append}
use Rattle.sock_card.specs.Limits.{group_room}
use Rattle.sock_card.specs.declared.owner.Owner.{Owner}
use Rattle.sock_card.specs.Conflict.{refuses}
use Rattle.turn_table.specs.Passes as words
use Rattle.turn_table.specs.Passes.{known}
use Rattle.bind_buckets.specs.declared.request.Request.{Request}
use Rattle.bind_buckets.specs.declared.request.Request.TheVariants as requests
use Rattle.bind_buckets.specs.declared.request.Answer.{Answer}
use Rattle.bind_buckets.specs.declared.request.Answer.TheVariants as answers
use Rattle.bind_buckets.specs.declared.request.Entry.{Entry}
use Rattle.bind_buckets.specs.declared.request.Strange.{Strange}
use Rattle.bind_buckets.specs.declared.request.ListenEnd.{ListenEnd}
use Rattle.bind_buckets.specs.declared.request.ListenEnd.TheVariants as ends
use Rattle.bind_buckets.specs.Answers.{answer_of_name, answer_of_listen, KnowsOrSays}
use Rattle.bind_buckets.specs.Bucket.{Bucket, IsSound, answer_to, called, entries_of, entry_of, note_of}
use Rattle.bind_buckets.specs.OwnTold.{StandsOwn}
use Rattle.bind_buckets.specs.OwnerStep.{Held, owner_step, has_name, spoken, may_listen, listener_answer, group_answer, group_number, place_for, members_at, others}
use Rattle.bind_buckets.specs.Turned.{Hash, Pass, Out, View, IsOut, Within, Asks, made}
use Rattle.bind_buckets.proofs.OwnTold.{own_stands, stands_within}
use Rattle.sock_ops.specs.Stands.{IsThere}
use Rattle.sock_ops.specs.There.{IsKnown}

-- as the turn of its bucket comes, an owner that stands is there
pub there_now : (t : Hash) (p : Pass) (turn : Out) (a : Owner) (place : ℕ) (v : View) → IsOut t p turn → IsSound turn.value.value → made p turn ≡ [] → turn.place ≡ place → Within v (known p) → StandsOwn a place v → IsThere turn a
there_now t p turn a place v out sound none at within stands =
    own_stands t p turn a out sound none (subst (λ i. StandsOwn a i (known p)) (sym at) (stands_within a place v (known p) within stands))

abbrev last_of : Entry → List Entry → Entry
last_of d [] = d
last_of d (x ∷ xs) = last_of x xs

last_push : (d : Entry) (xs : List Entry) (e : Entry) → last_of d (xs ++ e ∷ []) ≡ e
last_push d [] e = refl
last_push d (x ∷ xs) e = last_push x xs e

-- a bucket that was asked answered as its step does
pub answers_so : (t : Hash) (p : Pass) (turn : Out) (q : Pass) (after : Out) (request : Request) (answer : Answer) → Asks t p turn q after request answer → answer ≡ answer_to turn.value.value request
answers_so t p turn q after request answer asks =
    let b = turn.value.value in
    let e : Entry = record { request = request; answer = answer } in
    let f : Entry = record { request = request; answer = answer_to b request } in
    let found = entries_of (words.found q) in
    let before = entries_of (made p turn) in
    let said : entries_of after.value.value.journal ≡ (found ++ before) ++ e ∷ [] =
    ap entries_of asks.out.grown ∙ map-append entry_of (words.found q) (made q after) ∙ ap (λ es. found ++ es) asks.made_is ∙ sym (append_assoc found before (e ∷ [])) in
    let noted : entries_of after.value.value.journal ≡ entries_of b.journal ++ f ∷ [] =
    ap (λ (x : Bucket). entries_of x.journal) asks.value ∙ map-append entry_of b.journal (note_of after.value.value.next request (answer_to b request) ∷ []) in
    ap (λ (x : Entry). x.answer) (sym (last_push e (found ++ before) e) ∙ ap (last_of e) (sym said ∙ noted) ∙ last_push e (entries_of b.journal) f)

-- a name that is there isn't strange
pub is_done : (name : ℕ) (owners : List Owner) (a : Owner) (r : Result (Unit {0}) Strange) → find (has_name name) owners ≡ Some a → KnowsOrSays name owners r → answer_of_name r ≡ answers.Done
is_done name owners a (Ok done) there knows = refl
is_done name owners a (Err end) there knows = absurd (let none = knows.none in cc)

abbrev IsNotStrange : Answer → Type 0
IsNotStrange (answers.Strange name) = ⊥
IsNotStrange _ = Unit {0}

cond_known : (b : Bool) (x y : Answer) → IsNotStrange x → IsNotStrange y → IsNotStrange (cond b x y)
cond_known true x y p q = p
cond_known false x y p q = q

group_known : (n : ℕ) (h : Held) (place : Option ℕ) → IsNotStrange (group_answer n h place)
group_known n h None = tt
group_known n h (Some place) =
    cond_known (ltb (length (members_at h place)) group_room) (answers.Group (Some (group_number n place))) answers.GroupFull tt tt

listener_known : (n : ℕ) (h : Held) (a : Owner) (o : Option Owner) → IsNotStrange (listener_answer n h a o)
listener_known n h a (Some other) = tt
listener_known n h a None =
    cond_known a.reuseport (group_answer n h (place_for h a)) (answers.Group None) (group_known n h (place_for h a)) tt

known_by : (r : Result (Option ℕ) ListenEnd) → IsNotStrange (answer_of_listen r) → IsKnown r
known_by (Ok group) k = tt
known_by (Err (ends.InUse name)) k = tt
known_by (Err ends.GroupFull) k = tt
known_by (Err ends.GroupsFull) k = tt
known_by (Err (ends.Strange name)) k = absurd k

-- the answer to a listener that is there
pub listens_as : (b : Bucket) (a : Owner) → find (has_name a.name) b.held.owners ≡ Some a → answer_to b (requests.MayListen a.name) ≡ listener_answer b.number b.held a (find (refuses a) (others b.held a.name))
unfolding owner_step
listens_as b a there = ap (λ o. (spoken b.held a.name o (may_listen b.number b.held a.name)).answer) there

pub listen_known : (n : ℕ) (h : Held) (a : Owner) (r : Result (Option ℕ) ListenEnd) → answer_of_listen r ≡ listener_answer n h a (find (refuses a) (others h a.name)) → IsKnown r
listen_known n h a r e = known_by r (subst IsNotStrange (sym e) (listener_known n h a (find (refuses a) (others h a.name))))

-- it is there afterwards
pub asked_there : (b : Bucket) (a : Owner) → find (has_name a.name) b.held.owners ≡ Some a → find (has_name a.name) (called b (requests.MayListen a.name)).held.owners ≡ Some a
unfolding owner_step
asked_there b a there =
    subst (λ o. find (has_name a.name) (spoken b.held a.name o (may_listen b.number b.held a.name)).held.owners ≡ Some a) (sym there) there

pub few_buckets : (b : Bucket) → IsSound b → b.number < 256
few_buckets b s = omega (arith, s.number, s.buckets)

-- where the turn was had
pub there_if : {E : Type 0} (t : Hash) (p : Pass) (a : Owner) (place : ℕ) (v : View) (r : Result Out E) → IfOk r (λ turn. IsOut t p turn) → IfOk r (λ turn. IsSound turn.value.value)
    → IfOk r (λ turn. made p turn ≡ []) → IfOk r (λ turn. turn.place ≡ place) → IfOk r (λ turn. Within v (known p)) → StandsOwn a place v → IfOk r (λ turn. IsThere turn a)
there_if t p a place v (Ok turn) out sound none at within stands = there_now t p turn a place v out sound none at within stands
there_if t p a place v (Err end) out sound none at within stands = tt
