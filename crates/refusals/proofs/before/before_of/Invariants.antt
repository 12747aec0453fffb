use Rattle.std.proofs.Common.{◌≡◌, ◌+◌, drop}
use Rattle.sock_script.specs.Seen.{texts}
use Rattle.refusals.specs.Before.{before_from, before_of}
use Rattle.refusals.proofs.before.before_of.Given as goal

abbrev pub invariant-loop-i : goal.invariant-loop-i
invariant-loop-i l =
    before_from l.verb l.label (l.i + 1) l.before (drop l.i (texts l.lines)) ≡ before_of l.verb l.label (texts l.lines)
