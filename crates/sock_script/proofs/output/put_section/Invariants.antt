use Rattle.sock_script.specs.Seen.{tables}
use Rattle.sock_script.proofs.LineTurns.{WroteSoFar}
use Rattle.sock_script.proofs.output.put_section.Given as goal

abbrev pub invariant-loop-command : goal.invariant-loop-command
invariant-loop-command l =
    WroteSoFar (tables l.labels.by_section.items) l.n l.commands l.fn.unwritten l.left l.fn.out.items l.out.items l.command-index
