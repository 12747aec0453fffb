use Rattle.std.proofs.Common.{rules}
use Rattle.tickets.proofs.Steps.{looks}
use Rattle.tickets.proofs.pass.Tickets.count.Goals as goal

pub load-requires : goal.load-requires
load-requires c = (search rules, search rules, looks _ _ _ _ c.requires.table.1)
