use Rattle.reuseport_group.specs.Passes.{IsPassOf}
use Rattle.reuseport_group.proofs.tests.choose_often.Given as goal

abbrev pub invariant-loop-i : goal.invariant-loop-i
invariant-loop-i l = IsPassOf l.groups l.passes
