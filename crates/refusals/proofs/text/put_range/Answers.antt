-- The five pieces in their order.
use Rattle.std.proofs.Common.{ap, codes, decimal}
use Rattle.refusals.specs.Texts.{kind_text}
use Rattle.refusals.proofs.Joined.{then_ok, five, named}
use Rattle.refusals.proofs.text.put_range.Goals as goal

pub returns : goal.returns
unfolding kind_text
returns c =
    then_ok c.put-3.result c.put-3.ensures
    (five c.args.out.now.items c.put.new.out.items c.put_number.new.out.items c.put-2.new.out.items c.put_number-2.new.out.items
    c.put-3.new.out.items (codes "a number from ") (decimal c.args.least) (codes " to ") (decimal c.args.most)
    (codes ", in digits, without a sign or a leading zero") c.in_ok-put.ensures
    (named c.put.new.out.items c.put_number.new.out.items (decimal c.from.result) (decimal c.args.least) c.in_ok-put_number.ensures (ap decimal c.from.ensures))
    c.in_ok-put-2.ensures
    (named c.put-2.new.out.items c.put_number-2.new.out.items (decimal c.from-2.result) (decimal c.args.most) c.in_ok-put_number-2.ensures (ap decimal c.from-2.ensures)))
