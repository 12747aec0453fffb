use Rattle.std.proofs.Common.{◌∙◌, ◌++◌, ap}
use Rattle.sock_script.specs.Seen.{tables}
use Rattle.sock_script.specs.Steps.{item_lines}
use Rattle.sock_script.proofs.LineTurns.{wrote_items}
use Rattle.sock_script.proofs.output.put_packets.Goals as goal

pub returns : goal.returns
returns c =
    let table = tables c.args.labels.now.by_section.items in
    wrote_items table c.args.unwritten c.take-left.result.1 c.args.out.now.items c.put_items.new.out.items c.args.count c.take-left.result.0.now c.take-left.ensures
    (c.in_ok-put_items.ensures ∙ ap (λ k. c.args.out.now.items ++ item_lines table k c.take-left.result.0.now) c.number.ensures)
