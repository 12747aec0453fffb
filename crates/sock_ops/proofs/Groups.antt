-- A listener's group is one of its bucket's eight, of 256 buckets at most.
use Rattle.std.proofs.Common.{◌≡◌, ℕ, ◌<◌, Bool, true, false, cond, ltb, length, find, Some, None, Option, Result, Ok, Err, IfOk, IfSome, arith, subst, refl}
use Rattle.sock_card.specs.Limits.{group_room}
use Rattle.sock_card.specs.declared.owner.Owner.{Owner}
use Rattle.sock_card.specs.Conflict.{refuses}
use Rattle.bind_buckets.specs.declared.request.Answer.{Answer}
use Rattle.bind_buckets.specs.declared.request.Answer.TheVariants as answers
use Rattle.bind_buckets.specs.declared.request.ListenEnd.{ListenEnd}
use Rattle.bind_buckets.specs.Answers.{answer_of_listen}
use Rattle.bind_buckets.proofs.GroupNumber.{place_within}
use Rattle.bind_buckets.specs.OwnerStep.{Held, listener_answer, group_answer, group_number, place_for, members_at, others}

-- the answer, where it names a group, names one of so few
abbrev IsFew : Answer → Type 0
IsFew (answers.Group group) = IfSome group (λ g. g < 2048)
IsFew _ = Unit {0}

few_by : (b : Bool) (n place : ℕ) → n < 256 → place < 8 → IsFew (cond b (answers.Group (Some (group_number n place))) answers.GroupFull)
few_by true n place m h = omega arith
few_by false n place m h = tt

group_few : (n : ℕ) (h : Held) (a : Owner) (place : Option ℕ) → n < 256 → length h.groups ≡ 8 → place_for h a ≡ place → IsFew (group_answer n h place)
group_few n h a None m eight q = tt
group_few n h a (Some place) m eight q =
    few_by (ltb (length (members_at h place)) group_room) n place m (subst (λ k. place < k) eight (place_within h a place q))

shared_few : (b : Bool) (x : Answer) → IsFew x → IsFew (cond b x (answers.Group None))
shared_few true x h = h
shared_few false x h = tt

listener_few : (n : ℕ) (h : Held) (a : Owner) (o : Option Owner) → n < 256 → length h.groups ≡ 8 → IsFew (listener_answer n h a o)
listener_few n h a None m eight = shared_few a.reuseport _ (group_few n h a (place_for h a) m eight refl)
listener_few n h a (Some other) m eight = tt

pub few_groups : (n : ℕ) (h : Held) (name : ℕ) (a : Owner) (r : Result (Option ℕ) ListenEnd) → n < 256 → length h.groups ≡ 8 → answer_of_listen r ≡ listener_answer n h a (find (refuses a) (others h name)) → IfOk r (λ group. IfSome group (λ g. g < 2048))
few_groups n h name a (Err end) m eight e = tt
few_groups n h name a (Ok group) m eight e = rw (← e) at (listener_few n h a (find (refuses a) (others h name)) m eight)
