use Rattle.std.proofs.Common.{◌≡◌, ◌≤◌, ◌+◌, ◌%◌, ◌++◌, true, None, length}
use Rattle.table_rule.specs.Calls.{IsOf, me, view, layout_of}
use Rattle.bucket_locks.specs.Locks.{IsAt, WalkKnown}
use Rattle.nulls_chain.specs.Changes.{wait_in}
use Rattle.nulls_chain.proofs.finding.find_wait.Given as goal

abbrev pub invariant-loop-count : goal.invariant-loop-count
invariant-loop-count l = record {
  table : IsOf l.chains l.steps;
  at : IsAt (layout_of l.chains) l.locked (view l.steps);
  bucket : l.locked.bucket ≡ l.initial.locked.bucket;
  kept : me l.steps ≡ (record (view l.initial.steps) { chain = (view l.steps).chain }, (me l.initial.steps).1);
  on : l.locked.started ≡ true → l.locked.link % 2 ≡ 0;
  known : WalkKnown (layout_of l.chains) (view l.steps);
  few : l._count ≤ (layout_of l.chains).shape.slots;
  count : l._count ≤ length (view l.steps).chain.walked + length (view l.steps).chain.ahead;
  none : wait_in l.name ((view l.steps).chain.walked ++ (view l.steps).chain.ahead) ≡ None;
}
