use Rattle.std.proofs.Common.{◌≡◌, ◌+◌}
use Rattle.table_rule.specs.Calls.{IsOf, view, me}
use Rattle.table_rule.specs.Sole.{IsBare, AllUsed}
use Rattle.sock_slots.specs.Claims.{Tried, Between}
use Rattle.sock_slots.proofs.fresh.claim_within.Given as goal

abbrev pub invariant-loop-slot : goal.invariant-loop-slot
invariant-loop-slot l = record {
  table : IsOf l.chains l.steps;
  carried : (me l.steps).1 ≡ (me l.initial.steps).1;
  counted : l.start + l.owned + l.held ≡ l.slot;
  used : IsBare (view l.initial.steps) → AllUsed (view l.initial.steps).book.closed l.start l.slot × (l.held ≡ 0);
  seen : Tried (view l.initial.steps) (view l.steps) l.owned l.held (Between l.start l.slot);
}
