use Rattle.std.proofs.Common.{List, get_or, sym, ◌∙◌}
use Rattle.book_audit.specs.declared.printed.PrintedPacket.{PrintedPacket}
use Rattle.book_audit.specs.declared.printed.PrintedPacket.TheVariants as packets
use Rattle.book_audit.specs.Looks.{IsLineExplained}
use Rattle.book_audit.proofs.Faults.{each_line_of, each_fails_of}
use Rattle.book_audit.proofs.Looked.{line_is, line_back}
use Rattle.book_audit.proofs.receipts.searched.Goals as goal

pub returns-then-not-is_explained : goal.returns-then-not-is_explained
returns-then-not-is_explained c =
    let p = c.args.printed.now in
    let ys : List PrintedPacket = c.deref-packet-items.result.now in
    each_fails_of (IsLineExplained p.shape p.seed p.lives.items) p.packets.items ys c.loop-at.at packets.Passed c.deref-packet-items.ensures.value c.loop-at-test.true c.loop-at.invariant
    (line_back p.clock p.shape p.seed p.lives.items c.requires.stamps c.requires.slots c.requires.homes (get_or ys c.loop-at.at packets.Passed) (sym c.is_explained.ensures ∙ c.if-not-is_explained.true))

pub loop-at-preserved : goal.loop-at-preserved
loop-at-preserved c =
    let p = c.args.printed.now in
    let ys : List PrintedPacket = c.deref-packet-items.result.now in
    each_line_of (IsLineExplained p.shape p.seed p.lives.items) p.packets.items ys c.loop-at.at packets.Passed c.deref-packet-items.ensures.value c.loop-at-test.true c.loop-at.invariant
    (line_is p.clock p.shape p.seed p.lives.items c.requires.stamps c.requires.slots c.requires.homes (get_or ys c.loop-at.at packets.Passed) (sym c.is_explained.ensures ∙ c.if-not-is_explained.false))
