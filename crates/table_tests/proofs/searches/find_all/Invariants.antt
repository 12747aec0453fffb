use Rattle.std.proofs.Common.{◌≡◌, ◌*◌, ◌≤◌}
use Rattle.turn_table.specs.Passes as words
use Rattle.bind_buckets.specs.Turned.{IsIdle}
use Rattle.table_tests.proofs.searches.find_all.Given as goal

abbrev pub invariant-loop-search : goal.invariant-loop-search
invariant-loop-search g l = IsIdle l.turns l.pass × (words.caller l.pass ≡ 0) × (words.draws l.pass ≤ 6 * l.search-index)
