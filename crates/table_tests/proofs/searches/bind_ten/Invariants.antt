use Rattle.std.proofs.Common.{◌≡◌, ◌*◌, ◌≤◌}
use Rattle.turn_table.specs.Passes as words
use Rattle.bind_buckets.specs.Turned.{IsIdle}
use Rattle.table_tests.proofs.searches.bind_ten.Given as goal

abbrev pub invariant-loop-number : goal.invariant-loop-number
invariant-loop-number g l = IsIdle l.turns l.pass × (words.caller l.pass ≡ l.section) × (words.draws l.pass ≤ 40 * l.number)
