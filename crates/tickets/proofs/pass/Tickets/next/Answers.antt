use Rattle.std.proofs.Common.{rules, arith}
use Rattle.tickets.proofs.Steps.{draws}
use Rattle.tickets.proofs.Uses.{drew}
use Rattle.tickets.proofs.pass.Tickets.next.Goals as goal

pub fetch_add-number-requires : goal.fetch_add-number-requires
fetch_add-number-requires c = (search rules, search rules, draws _ _ _ _ (omega (arith, c.requires.still, c.requires.table.2)) c.requires.table.1)

pub returns-then-number-from-clause-draw : goal.returns-then-number-from-clause-draw
returns-then-number-from-clause-draw c = drew _ _ _ c.fetch_add-number.ensures.2 c.requires.table.3 (omega (arith, c.if-number-from.true, c.from.ensures, c.requires.table.2))
