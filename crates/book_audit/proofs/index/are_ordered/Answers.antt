use Rattle.std.proofs.Common.{None, sym, ◌∙◌, arith}
use Rattle.book_audit.proofs.Marks.{ordered_line}
use Rattle.book_audit.proofs.index.are_ordered.Goals as goal

pub loop-i-preserved : goal.loop-i-preserved
loop-i-preserved c =
    ordered_line c.args.stays.now c.loop-i.i (record { place = 0; part = 0; from = 0; until = None }) (omega arith) (omega arith)
    (sym c.goes_before.ensures ∙ c.if-not-goes_before.false) c.loop-i.invariant
