use Rattle.std.proofs.Common.{drop}
use Rattle.sock_script.proofs.RunTurns.{RanSoFar}
use Rattle.sock_script.proofs.run.run_section.Given as goal

abbrev pub invariant-loop-command : goal.invariant-loop-command
invariant-loop-command l =
    RanSoFar l.n l.fn.flat l.flat (drop l.command-index l.fn.commands) l.fn.commands l.fn.items l.left l.fn.replies l.replies l.command-index
