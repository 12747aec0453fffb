use Rattle.std.proofs.Common.{◌-◌, length}
use Rattle.sock_script.specs.Seen.{texts}
use Rattle.sock_script.specs.Pieces.{EndsPiece}
use Rattle.sock_script.proofs.TakenLines.{Reached}
use Rattle.sock_script.proofs.word.read_words.Given as goal

abbrev pub invariant-loop-end : goal.invariant-loop-end
invariant-loop-end l = EndsPiece l.text l.start l.end × Reached l.text l.start (texts l.words.items)

abbrev pub decreases-loop-end : goal.decreases-loop-end
decreases-loop-end l = length l.text - l.end
