use Rattle.std.proofs.Common.{All, IfOk}
use Rattle.tickets.specs.Passes.{IsPassOf}
use Rattle.tickets.proofs.tests.join_all.Given as goal

abbrev pub invariant-loop-told : goal.invariant-loop-told
invariant-loop-told l = record {
  table : IsPassOf l.tickets l.first;
  others : All (λ r. IfOk r (λ t. IsPassOf l.tickets t.0)) l.told-iterator.rest.items;
}
