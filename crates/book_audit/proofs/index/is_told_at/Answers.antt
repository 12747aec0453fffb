use Rattle.book_audit.proofs.Marks.{none_both}
use Rattle.book_audit.proofs.index.is_told_at.Goals as goal

pub returns-then-none_later : goal.returns-then-none_later
returns-then-none_later c = λ t o.
    none_both c.args.place c.args.part c.args.t0 c.args.t1 c.args.stays.now c.args.at
    (c.none_later.ensures c.if-none_later.true o) (c.none_earlier.ensures t o)
