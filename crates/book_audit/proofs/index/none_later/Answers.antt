use Rattle.std.proofs.Common.{None, sym, ◌∙◌, arith}
use Rattle.std.proofs.lemmas.Bool.{not-true}
use Rattle.book_audit.proofs.Marks.{later_none}
use Rattle.book_audit.proofs.index.none_later.Goals as goal

pub returns : goal.returns
returns c = λ t.
    later_none c.args.place c.args.part c.args.t0 c.args.t1 c.args.stays.now c.args.at (record { place = 0; part = 0; from = 0; until = None }) (omega (arith, c.if-at-stays.false))
    (sym c.precedes.ensures ∙ not-true c.precedes.result t)
