use Rattle.std.proofs.Common.{◌≡◌, ◌*◌, ◌≤◌}
use Rattle.turn_table.specs.Passes as words
use Rattle.bind_buckets.specs.Turned.{IsIdle}
use Rattle.table_tests.proofs.visits.visit_all.Given as goal

abbrev pub invariant-loop-next : goal.invariant-loop-next
invariant-loop-next g l = IsIdle l.turns l.pass × (words.caller l.pass ≡ 0) × (words.draws l.pass ≤ 3 * l.next-index)
