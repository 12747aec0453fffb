use Rattle.std.proofs.Common.{take}
use Rattle.book_audit.specs.Lines.{AreStamped}
use Rattle.book_audit.proofs.stamps.searched.Given as goal

abbrev pub invariant-loop-at : goal.invariant-loop-at
invariant-loop-at l = AreStamped l.clock (take l.at l.lives)
