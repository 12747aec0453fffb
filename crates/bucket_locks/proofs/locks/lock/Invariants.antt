use Rattle.std.proofs.Common.{◌≡◌}
use Rattle.table_rule.specs.Calls.{IsOf, me}
use Rattle.bucket_locks.proofs.locks.lock.Given as goal

abbrev pub invariant-loop-tries : goal.invariant-loop-tries
invariant-loop-tries g l = record {
  table : IsOf l.chains l.steps;
  same : (me l.steps) ≡ (me l.initial.steps);
}
