use Rattle.std.proofs.Common.{◌+◌, ◌*◌, ◌≤◌, length}
use Rattle.sock_script.specs.CountSteps.{weight}
use Rattle.sock_script.proofs.CountTurns.{CountedSections}
use Rattle.sock_script.proofs.counts.Counts.of.Given as goal

abbrev pub invariant-loop-commands : goal.invariant-loop-commands
invariant-loop-commands l = record {
  counted : CountedSections l.script.sections l.replies l.counts l.rest l.commands-index;
  weight : weight l.counts + 2 * length l.rest ≤ 2 * length l.replies;
}
