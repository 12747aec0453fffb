use Rattle.std.proofs.Common.{◌≤◌}
use Rattle.sock_script.specs.Pieces.{GoesOn}
use Rattle.sock_script.proofs.word.end_by_bytes.Given as goal

abbrev pub invariant-loop-end : goal.invariant-loop-end
invariant-loop-end l = (l.start ≤ l.end) × GoesOn l.text l.start l.end
