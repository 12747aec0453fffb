use Rattle.std.proofs.Common.{None, sym, ◌∙◌, arith}
use Rattle.book_audit.proofs.Marks.{earlier_none}
use Rattle.book_audit.proofs.index.none_earlier.Goals as goal

pub returns-then-precedes : goal.returns-then-precedes
returns-then-precedes c = λ t.
    earlier_none c.args.place c.args.part c.args.t0 c.args.t1 c.args.stays.now c.args.at (record { place = 0; part = 0; from = 0; until = None }) (omega arith) c.requires
    (sym c.precedes.ensures ∙ c.if-precedes.true) (sym c.is_over.ensures ∙ t)
