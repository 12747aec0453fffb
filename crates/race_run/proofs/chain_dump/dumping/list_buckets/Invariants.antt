use Rattle.std.proofs.Common.{◌≡◌, []}
use Rattle.table_rule.specs.Calls.{IsOf, view}
use Rattle.race_run.specs.Dumps.{Keeps, ListsAll}
use Rattle.race_run.proofs.chain_dump.dumping.list_buckets.Given as goal

abbrev pub invariant-loop-bucket : goal.invariant-loop-bucket
invariant-loop-bucket g l = record {
  table : IsOf l.chains l.steps;
  free : (view l.steps).chain.locked ≡ [];
  keeps : Keeps (view l.initial.steps) (view l.steps);
  seen : (view l.steps).seen ≡ (view l.initial.steps).seen;
  lists : ListsAll l.bucket l.initial.items.items l.items.items (view l.initial.steps) (view l.steps);
  hand : l.steps.seat.me.1 ≡ l.initial.steps.seat.me.1;
}
