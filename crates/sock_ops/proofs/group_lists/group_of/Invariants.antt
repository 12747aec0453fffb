use Rattle.std.proofs.Common.{◌≡◌, ◌<◌, ℕ, false}
use Rattle.bind_buckets.specs.Members.{has_member}
use Rattle.bind_buckets.specs.OwnerStep.{members_at}
use Rattle.sock_ops.proofs.group_lists.group_of.Given as goal

abbrev pub invariant-loop-place : goal.invariant-loop-place
invariant-loop-place l = (place : ℕ) → place < l.place → has_member l.name (members_at l.turn.value.value.held place) ≡ false
