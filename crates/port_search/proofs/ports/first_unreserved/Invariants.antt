use Rattle.port_search.proofs.PortsLeft.{Left}
use Rattle.port_search.proofs.ports.first_unreserved.Given as goal

abbrev pub invariant-loop-number : goal.invariant-loop-number
invariant-loop-number l = Left l.range l.offset l.first l.from l.number
