use Rattle.std.proofs.Common.{take}
use Rattle.list_words.specs.Lists.{Each}
use Rattle.book_audit.specs.Index.{IsMarked}
use Rattle.book_audit.proofs.index.raised.Given as goal

abbrev pub invariant-loop-stay : goal.invariant-loop-stay
invariant-loop-stay l = Each (IsMarked l.raised.items) (take l.stay-index l.stays)
