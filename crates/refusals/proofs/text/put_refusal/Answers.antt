-- The five pieces in their order.
use Rattle.std.proofs.Common.{ap, codes}
use Rattle.refusals.specs.Texts.{line_text, reason_text, help_text}
use Rattle.refusals.proofs.Joined.{then_ok, five, named}
use Rattle.refusals.proofs.text.put_refusal.Goals as goal

pub returns : goal.returns
returns c =
    then_ok c.put-2.result c.put-2.ensures
    (five c.args.out.now.items c.put_line.new.out.items c.put_reason.new.out.items c.put.new.out.items c.put_help.new.out.items
    c.put-2.new.out.items (line_text c.args.refusal.now.number c.args.refusal.now.line.items) (reason_text c.args.refusal.now.reason)
    (codes "\n") (help_text c.args.refusal.now.reason) (codes "\n")
    (named c.args.out.now.items c.put_line.new.out.items (line_text c.args.refusal.now.number c.deref.result.now)
    (line_text c.args.refusal.now.number c.args.refusal.now.line.items) c.in_ok-put_line.ensures (ap (line_text c.args.refusal.now.number) c.deref.ensures.value))
    c.in_ok-put_reason.ensures c.in_ok-put.ensures c.in_ok-put_help.ensures)
