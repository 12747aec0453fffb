use Rattle.std.proofs.Common.{◌≡◌}
use Rattle.turn_table.specs.Passes.{IsPassOf, IsFree, known}
use Rattle.turn_table.proofs.pass.Turns.take_turn.Given as goal

abbrev pub invariant-loop-tries : goal.invariant-loop-tries
invariant-loop-tries g l = IsPassOf l.self l.pass × IsFree l.pass × (known l.pass ≡ known l.initial.pass)
