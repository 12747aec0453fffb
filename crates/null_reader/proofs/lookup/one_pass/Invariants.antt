use Rattle.std.proofs.Common.{◌+◌, ◌≤◌}
use Rattle.table_rule.specs.Calls.{IsOf, view, me}
use Rattle.table_rule.specs.LookCalls.{Looks}
use Rattle.null_reader.specs.Looked.{Walking}
use Rattle.table_rule.specs.declared.view.Reader.{Reader}
use Rattle.null_reader.proofs.lookup.one_pass.Given as goal

abbrev pub invariant-loop-followed : goal.invariant-loop-followed
invariant-loop-followed g l = record {
  table : IsOf l.chains l.steps;
  walking : (q : Reader) → Looks (view l.fn.steps) q → Walking l.chains.layout (me l.fn.steps) q l.best l.link l.followed (me l.steps);
  few : l.followed ≤ l.chains.layout.shape.slots + 1;
}
