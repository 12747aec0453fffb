-- The four pieces in their order.
use Rattle.std.proofs.Common.{codes}
use Rattle.refusals.specs.Captures.{capture_text, flaw_text, wanted_text}
use Rattle.refusals.proofs.Joined.{then_ok, four}
use Rattle.refusals.proofs.capture.put_bad_capture.Goals as goal

pub returns : goal.returns
unfolding capture_text
returns c =
    then_ok c.put_wanted.result c.put_wanted.ensures
    (four c.args.out.now.items c.put.new.out.items c.put_flaw.new.out.items c.put-2.new.out.items c.put_wanted.new.out.items
    (codes "bad capture: ") (flaw_text c.args.flaw) (codes "\n") wanted_text c.in_ok-put.ensures c.in_ok-put_flaw.ensures
    c.in_ok-put-2.ensures)
