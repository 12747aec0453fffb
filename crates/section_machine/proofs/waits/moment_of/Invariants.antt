use Rattle.std.proofs.Common.{◌+◌, ◌-◌, ◌<◌, ◌≤◌}
use Rattle.section_machine.proofs.waits.moment_of.Given as goal

abbrev pub invariant-loop-over : goal.invariant-loop-over
invariant-loop-over l = (l.before < l.waiting.extra + 60) × (l.waiting.extra + 60 ≤ l.over)

abbrev pub decreases-loop-over : goal.decreases-loop-over
decreases-loop-over l = l.over - l.before
