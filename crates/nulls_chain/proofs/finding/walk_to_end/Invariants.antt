use Rattle.std.proofs.Common.{◌≡◌, ◌≤◌, ◌+◌, ◌%◌, ◌++◌, true, List, length}
use Rattle.table_rule.specs.Calls.{IsOf, me, view, layout_of}
use Rattle.table_rule.specs.declared.view.Seen.{Seen}
use Rattle.bucket_locks.specs.Locks.{IsAt, WalkKnown}
use Rattle.nulls_chain.proofs.finding.walk_to_end.Given as goal

abbrev pub invariant-loop-count : goal.invariant-loop-count
invariant-loop-count l = record {
  table : IsOf l.chains l.steps;
  at : IsAt (layout_of l.chains) l.locked (view l.steps);
  bucket : l.locked.bucket ≡ l.initial.locked.bucket;
  kept : me l.steps ≡ (record (view l.initial.steps) { chain = (view l.steps).chain }, (me l.initial.steps).1);
  on : l.locked.started ≡ true → l.locked.link % 2 ≡ 0;
  known : WalkKnown (layout_of l.chains) (view l.steps);
  few : l._count ≤ (layout_of l.chains).shape.slots;
  count : l._count ≤ length (view l.steps).chain.walked + length (view l.steps).chain.ahead;
  more : (more : List Seen) × ((view l.steps).chain.walked ++ (view l.steps).chain.ahead ≡ ((view l.initial.steps).chain.walked ++ (view l.initial.steps).chain.ahead) ++ more);
}
