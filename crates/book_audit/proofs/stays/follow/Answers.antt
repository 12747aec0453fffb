use Rattle.std.proofs.Common.{None, sym, ◌∙◌, arith}
use Rattle.book_audit.proofs.Order.{one_more_at, all_apart}
use Rattle.book_audit.proofs.stays.follow.Goals as goal

pub loop-i-preserved : goal.loop-i-preserved
loop-i-preserved c =
    one_more_at c.args.stays.now c.loop-i.i (record { place = 0; part = 0; from = 0; until = None }) (omega arith) (omega arith)
    (sym c.comes_first.ensures ∙ c.if-not-comes_first.false) (sym c.lasts.ensures ∙ c.if-not-lasts.false) c.loop-i.invariant

pub returns : goal.returns
returns c = λ _. all_apart c.args.stays.now c.loop-i.i (omega arith) c.loop-i.invariant
