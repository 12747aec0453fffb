use Rattle.std.proofs.Common.{take}
use Rattle.book_audit.specs.Index.{AreOrdered}
use Rattle.book_audit.proofs.index.are_ordered.Given as goal

abbrev pub invariant-loop-i : goal.invariant-loop-i
invariant-loop-i l = AreOrdered (take l.i l.stays)
