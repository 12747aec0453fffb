use Rattle.std.proofs.Common.{take}
use Rattle.list_words.specs.Lists.{Pairs}
use Rattle.book_audit.proofs.Order.{First}
use Rattle.book_audit.proofs.stays.follow.Given as goal

abbrev pub invariant-loop-i : goal.invariant-loop-i
invariant-loop-i l = Pairs First (take l.i l.stays)
