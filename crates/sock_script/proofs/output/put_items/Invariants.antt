use Rattle.std.proofs.Common.{◌≡◌, ◌++◌, ◌+◌, drop}
use Rattle.sock_script.specs.Seen.{tables}
use Rattle.sock_script.specs.Steps.{item_lines}
use Rattle.sock_script.proofs.output.put_items.Given as goal

abbrev pub invariant-loop-i : goal.invariant-loop-i
invariant-loop-i l =
    l.out.items ++ item_lines (tables l.labels.by_section.items) (l.number + l.i) (drop l.i l.replies)
    ≡ l.fn.out.items ++ item_lines (tables l.labels.by_section.items) l.number l.replies
