use Rattle.std.proofs.Common.{◌≡◌, map, take}
use Rattle.bind_buckets.specs.Closed.{count_in}
use Rattle.race_run.proofs.tell.counts_of.Given as goal

abbrev pub invariant-loop-bucket : goal.invariant-loop-bucket
invariant-loop-bucket l = l.counts.items ≡ map count_in (take l.bucket-index l.buckets)
