use Rattle.std.proofs.Common.{take}
use Rattle.list_words.specs.Lists.{Each}
use Rattle.book_audit.specs.Looks.{IsLineExplained}
use Rattle.book_audit.proofs.receipts.searched.Given as goal

abbrev pub invariant-loop-at : goal.invariant-loop-at
invariant-loop-at l =
    Each (IsLineExplained l.printed.shape l.printed.seed l.printed.lives.items) (take l.at l.printed.packets.items)
