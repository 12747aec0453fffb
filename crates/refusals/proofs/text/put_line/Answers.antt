-- The five pieces in their order.
use Rattle.std.proofs.Common.{codes, decimal}
use Rattle.refusals.specs.Texts.{line_text}
use Rattle.refusals.proofs.Joined.{then_ok, five}
use Rattle.refusals.proofs.text.put_line.Goals as goal

pub returns : goal.returns
unfolding line_text
returns c =
    then_ok c.put-4.result c.put-4.ensures
    (five c.args.out.now.items c.put.new.out.items c.put_number.new.out.items c.put-2.new.out.items c.put-3.new.out.items
    c.put-4.new.out.items (codes "bad script line ") (decimal c.args.number) (codes ": ") c.args.line.now (codes "\n")
    c.in_ok-put.ensures c.in_ok-put_number.ensures c.in_ok-put-2.ensures c.in_ok-put-3.ensures)
