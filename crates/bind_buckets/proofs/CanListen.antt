-- What it means for the groups that a socket may listen.
use Rattle.std.proofs.Common.{◌≡◌, ℕ, Bool, true, false, cond, Some, None, Option, refl}
use Rattle.std.proofs.lemmas.Bool.{false≢true}
use Rattle.sock_card.specs.declared.owner.Owner.{Owner}
use Rattle.bind_buckets.specs.declared.request.Answer.{Answer}
use Rattle.bind_buckets.specs.OwnerStep.{Held, listener_answer, group_answer, place_for}
use Rattle.bind_buckets.specs.Bucket.{IsGroup}

then_group : (b : Bool) (x y : Answer) → b ≡ true → IsGroup (cond b x y) → IsGroup x
then_group true x y is g = g
then_group false x y is g = absurd (false≢true is)

pub group_if_shared : (n : ℕ) (h : Held) (a : Owner) (o : Option Owner) → a.reuseport ≡ true → IsGroup (listener_answer n h a o) → IsGroup (group_answer n h (place_for h a))
group_if_shared n h a None shared g = then_group a.reuseport _ _ shared g
group_if_shared n h a (Some other) shared g = absurd g

pub unrefused : (n : ℕ) (h : Held) (a : Owner) (o : Option Owner) → IsGroup (listener_answer n h a o) → o ≡ None
unrefused n h a None g = refl
unrefused n h a (Some other) g = absurd g
