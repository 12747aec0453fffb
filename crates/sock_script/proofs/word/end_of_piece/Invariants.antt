use Rattle.std.proofs.Common.{◌≤◌, ◌-◌, length}
use Rattle.sock_script.specs.Pieces.{GoesOn}
use Rattle.sock_script.proofs.word.end_of_piece.Given as goal

abbrev pub invariant-loop-at : goal.invariant-loop-at
invariant-loop-at l = (l.start ≤ l.at) × (l.at ≤ length l.text) × GoesOn l.text l.start l.at

abbrev pub decreases-loop-at : goal.decreases-loop-at
decreases-loop-at l = length l.text - l.at
