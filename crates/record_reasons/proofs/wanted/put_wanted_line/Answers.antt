-- The three pieces in their order.
use Rattle.std.proofs.Common.{codes}
use Rattle.record_reasons.specs.Wanted.{wanted_line, wanted_text}
use Rattle.record_reasons.proofs.Joined.{then_ok, three}
use Rattle.record_reasons.proofs.wanted.put_wanted_line.Goals as goal

pub returns : goal.returns
unfolding wanted_line
returns c =
    then_ok c.put-2.result c.put-2.ensures
    (three c.args.out.now.items c.put.new.out.items c.put_wanted.new.out.items c.put-2.new.out.items (codes "there may stand: ")
    (wanted_text c.args.before) (codes "\n") c.in_ok-put.ensures c.in_ok-put_wanted.ensures)
