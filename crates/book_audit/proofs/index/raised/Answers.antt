use Rattle.std.proofs.Common.{None}
use Rattle.book_audit.proofs.Faces.{raised_line}
use Rattle.book_audit.proofs.index.raised.Goals as goal

pub loop-stay-preserved : goal.loop-stay-preserved
loop-stay-preserved c =
    raised_line c.args.stays.now c.loop-stay.stay-index (record { place = 0; part = 0; from = 0; until = None }) c.loop-stay-test.true c.loop-stay.raised.items c.push.new.self.items c.raise-next.result c.in_ok-push.ensures.items
    c.loop-stay.invariant c.raise-next.ensures
