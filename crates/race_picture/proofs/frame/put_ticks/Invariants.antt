use Rattle.std.proofs.Common.{◌≡◌, ◌++◌}
use Rattle.race_picture.specs.Frame.{ticks}
use Rattle.race_picture.proofs.frame.put_ticks.Given as goal

abbrev pub invariant-loop-k : goal.invariant-loop-k
invariant-loop-k l = l.out.items ≡ l.fn.out.items ++ ticks l.sheet l.k
