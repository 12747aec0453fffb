use Rattle.std.proofs.Common.{◌≡◌}
use Rattle.table_rule.specs.Calls.{IsOf, me, view, layout_of}
use Rattle.nulls_chain.proofs.Found.{Sought}
use Rattle.nulls_chain.proofs.finding.slot_before.Given as goal

abbrev pub invariant-loop-count : goal.invariant-loop-count
invariant-loop-count l = record {
  table : IsOf l.chains l.steps;
  same : me l.steps ≡ me l.fn.steps;
  sought : Sought (layout_of l.chains) l.bucket l.slot (view l.fn.steps).chain.walked l.before l.link l._count;
}
