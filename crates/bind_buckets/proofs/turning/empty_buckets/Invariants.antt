use Rattle.std.proofs.Common.{◌≡◌, length}
use Rattle.bind_buckets.specs.declared.request.Sharing.{Sharing}
use Rattle.bind_buckets.specs.Closed.{AreNew}
use Rattle.bind_buckets.proofs.turning.empty_buckets.Given as goal

abbrev pub invariant-loop-number : goal.invariant-loop-number
invariant-loop-number l = (length l.buckets.items ≡ l.number) × ((sharing : Sharing) → AreNew sharing 0 l.count l.buckets.items)
