use Rattle.std.proofs.Common.{sym}
use Rattle.flat_list.proofs.PortAt.{half_at}
use Rattle.flat_list.proofs.ports.port_from.Goals as goal

pub returns : goal.returns
returns c = rw c.size.ensures.size (sym (half_at c.args.range.now c.args.distance c.args.number c.args.range.now.low c.requires.number))
