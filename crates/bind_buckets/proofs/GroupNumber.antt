-- A listener's group is one of its bucket's.
use Rattle.std.proofs.Common.{◌≡◌, ℕ, ◌/◌, ◌<◌, Bool, true, false, cond, ltb, length, find, position, Some, None, Option, Result, Ok, Err, IfSome, arith, refl, subst}
use Rattle.std.specs.Option.{option_or, option_and_then}
use Rattle.std.specs.Result.{IfOk}
use Rattle.sock_card.specs.Limits.{group_room}
use Rattle.sock_card.specs.declared.owner.Owner.{Owner}
use Rattle.sock_card.specs.Conflict.{refuses}
use Rattle.bind_buckets.specs.declared.request.Answer.{Answer}
use Rattle.bind_buckets.specs.declared.request.Answer.TheVariants as answers
use Rattle.bind_buckets.specs.declared.request.ListenEnd.{ListenEnd}
use Rattle.bind_buckets.specs.Limits.{group_places}
use Rattle.bind_buckets.specs.Members.{has_member}
use Rattle.sock_card.specs.Conflict.{is_mate}
use Rattle.bind_buckets.specs.OwnerStep.{Held, spoken, may_listen, listener_answer, group_answer, group_number, place_for, mates_place, is_free, members_at, others}
use Rattle.bind_buckets.specs.Answers.{answer_of_listen}
use Rattle.bind_buckets.proofs.FirstPlace.{place_is}

within_then : (f : Owner → Option ℕ) (o : Option Owner) (n i : ℕ) → ((a : Owner) → f a ≡ Some i → i < n) → option_and_then f o ≡ Some i → i < n
within_then f None n i h e = absurd (cc)
within_then f (Some a) n i h e = h a e

within_or : (o p : Option ℕ) (n i : ℕ) → (o ≡ Some i → i < n) → (p ≡ Some i → i < n) → option_or o p ≡ Some i → i < n
within_or None p n i h k e = k e
within_or (Some j) p n i h k e = h e

pub place_within : (h : Held) (a : Owner) (i : ℕ) → place_for h a ≡ Some i → i < length h.groups
place_within h a i e =
    within_or (mates_place h a) (position is_free h.groups) (length h.groups) i
    (within_then (λ (mate : Owner). position (has_member mate.name) h.groups) (find (is_mate a) h.owners) (length h.groups) i (λ mate q. (place_is (has_member mate.name) h.groups i q).1))
    (λ q. (place_is is_free h.groups i q).1) e

-- the answer, where it names a group, names one of this bucket's
abbrev IsOurs : ℕ → Answer → Type 0
IsOurs n (answers.Group group) = IfSome group (λ g. g / group_places ≡ n)
IsOurs n _ = Unit {0}

ours_by : (b : Bool) (n place : ℕ) → place < group_places → IsOurs n (cond b (answers.Group (Some (group_number n place))) answers.GroupFull)
ours_by true n place h = omega arith
ours_by false n place h = tt

group_ours : (n : ℕ) (h : Held) (a : Owner) (place : Option ℕ) → length h.groups ≡ group_places → place_for h a ≡ place → IsOurs n (group_answer n h place)
group_ours n h a None long q = tt
group_ours n h a (Some place) long q =
    ours_by (ltb (length (members_at h place)) group_room) n place (subst (λ k. place < k) long (place_within h a place q))

shared_ours : (b : Bool) (n : ℕ) (x : Answer) → IsOurs n x → IsOurs n (cond b x (answers.Group None))
shared_ours true n x h = h
shared_ours false n x h = tt

listener_ours : (n : ℕ) (h : Held) (a : Owner) (o : Option Owner) → length h.groups ≡ group_places → IsOurs n (listener_answer n h a o)
listener_ours n h a None long =
    shared_ours a.reuseport n _ (group_ours n h a (place_for h a) long refl)
listener_ours n h a (Some other) long = tt

answer_ours : (n : ℕ) (h : Held) (name : ℕ) (o : Option Owner) → length h.groups ≡ group_places → IsOurs n (spoken h name o (may_listen n h name)).answer
answer_ours n h name None long = tt
answer_ours n h name (Some a) long = listener_ours n h a (find (refuses a) (others h name)) long

pub group_of_bucket : (n : ℕ) (h : Held) (name : ℕ) (o : Option Owner) (r : Result (Option ℕ) ListenEnd) → length h.groups ≡ group_places → answer_of_listen r ≡ (spoken h name o (may_listen n h name)).answer → IfOk r (λ group. IfSome group (λ g. g / group_places ≡ n))
group_of_bucket n h name o (Err end) long e = tt
group_of_bucket n h name o (Ok group) long e = rw (← e) at (answer_ours n h name o long)
