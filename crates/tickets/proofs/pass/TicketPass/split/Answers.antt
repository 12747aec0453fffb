use Rattle.std.proofs.Common.{rules}
use Rattle.tickets.proofs.Steps.{splits}
use Rattle.tickets.proofs.pass.TicketPass.split.Goals as goal

pub split_seat-requires : goal.split_seat-requires
split_seat-requires c = (search rules, search rules, splits _ _ _ c.requires.more)
