-- The four pieces in their order.
use Rattle.std.proofs.Common.{◌++◌, codes, decimal}
use Rattle.record_reasons.specs.Texts.{count_text}
use Rattle.record_reasons.proofs.Joined.{then_ok, four}
use Rattle.record_reasons.proofs.text.put_count.Goals as goal

pub returns : goal.returns
unfolding count_text
returns c =
    then_ok c.put_number-2.result c.put_number-2.ensures
    (four c.args.out.now.items c.put_numbered.new.out.items c.put_number.new.out.items c.put.new.out.items c.put_number-2.new.out.items
    (codes "the changes are " ++ decimal c.args.changes ++ codes ", the commands that found no slot ") (decimal c.args.vain)
    (codes ": the clock should be ") (decimal c.args.clock) c.in_ok-put_numbered.ensures c.in_ok-put_number.ensures c.in_ok-put.ensures)
