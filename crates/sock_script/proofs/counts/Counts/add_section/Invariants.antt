use Rattle.std.proofs.Common.{ℕ, ◌+◌, ◌*◌, ◌≤◌, List, length}
use Rattle.flat_list.specs.declared.command.Command.{Command}
use Rattle.sock_script.specs.CountSteps.{weight}
use Rattle.sock_script.proofs.CountTurns.{CountedSoFar}
use Rattle.sock_script.proofs.counts.Counts.add_section.Given as goal

abbrev pub invariant-loop-command : goal.invariant-loop-command
invariant-loop-command l =
    (goal.iterator-loop-command).can_next l.command-iterator
    × (goal.iterator-loop-command).is_finite l.command-iterator
    × ((sections : List (List Command)) (n : ℕ) → CountedSoFar sections n l.commands l.replies l.fn.self l.self (length l.yielded))
    × (weight l.self ≤ weight l.fn.self + 2 * length l.yielded)
