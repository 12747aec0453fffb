use Rattle.sock_script.specs.Output.{new_flat}
use Rattle.sock_script.proofs.RunTurns.{RanSections}
use Rattle.sock_script.proofs.run.replies.Given as goal

abbrev pub invariant-loop-i : goal.invariant-loop-i
invariant-loop-i l = RanSections (new_flat l.script.header) l.flat l.script.sections l.items l.left l.replies l.i
