use Rattle.std.proofs.Common.{◌≡◌, ◌+◌, ◌^◌, ◌≤◌, length}
use Rattle.turn_table.specs.Passes as words
use Rattle.turn_table.specs.Passes.{known}
use Rattle.bind_buckets.specs.Turned.{IsIdle}
use Rattle.port_search.proofs.TurnSearch.{Searching}
use Rattle.port_search.proofs.turning.find_bind_turn.Given as goal

abbrev pub invariant-loop-port : goal.invariant-loop-port
invariant-loop-port g l =
    (goal.iterator-loop-port g).can_next l.port-iterator
    × (goal.iterator-loop-port g).is_finite l.port-iterator
    × IsIdle l.turns l.pass
    × (words.draws l.pass + length l.port-iterator ≤ 2 ^ 48)
    × (words.draws l.pass + length l.port-iterator ≤ words.draws l.fn.pass + length l.fn.ports)
    × (words.caller l.pass ≡ words.caller l.fn.pass)
    × Searching (words.places l.turns) l.owner (known l.fn.pass) (known l.pass) l.fn.ports l.port-iterator
