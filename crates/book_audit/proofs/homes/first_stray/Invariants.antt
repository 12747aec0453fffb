use Rattle.std.proofs.Common.{take}
use Rattle.book_audit.specs.Lines.{AreHoused}
use Rattle.book_audit.proofs.homes.first_stray.Given as goal

abbrev pub invariant-loop-at : goal.invariant-loop-at
invariant-loop-at l = AreHoused l.shape l.seed (take l.at l.lives)
