use Rattle.sock_script.proofs.StepTurns.{MadeSoFar}
use Rattle.sock_script.proofs.make.commands_of.Given as goal

abbrev pub invariant-loop-i : goal.invariant-loop-i
invariant-loop-i l = MadeSoFar l.seed l.count l.generator l.commands.items l.i
