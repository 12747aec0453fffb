use Rattle.std.proofs.Common.{take}
use Rattle.book_audit.specs.Lines.{NoTwo}
use Rattle.book_audit.specs.Stays.{clash_of}
use Rattle.book_audit.proofs.clashes.searched.Given as goal

abbrev pub invariant-loop-at : goal.invariant-loop-at
invariant-loop-at l = NoTwo (clash_of l.clash) (take l.at l.lives)
