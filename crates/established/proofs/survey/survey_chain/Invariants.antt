use Rattle.std.proofs.Common.{◌≡◌, ◌++◌, true, ◌+◌, ◌%◌, ◌≤◌, length}
use Rattle.bucket_locks.specs.Locks.{IsAt, WalkKnown}
use Rattle.table_rule.specs.Calls.{IsOf, Becomes, view}
use Rattle.established.specs.Surveys.{Surveyed}
use Rattle.established.proofs.survey.survey_chain.Given as goal

abbrev pub invariant-loop-count : goal.invariant-loop-count
invariant-loop-count l = record {
  table : IsOf l.chains l.steps;
  at : IsAt l.chains.layout l.here (view l.steps);
  bucket : l.here.bucket ≡ l.initial.locked.bucket;
  kept : Becomes l.initial.steps l.steps (record (view l.initial.steps) { chain = (view l.steps).chain });
  on : l.here.started ≡ true → l.here.link % 2 ≡ 0;
  known : WalkKnown l.chains.layout (view l.steps);
  count : length (view l.steps).chain.walked + length (view l.steps).chain.ahead ≡ l._count;
  few : l._count ≤ l.chains.layout.shape.slots;
  surveyed : Surveyed l.sought l.survey ((view l.steps).chain.walked ++ (view l.steps).chain.ahead);
}
