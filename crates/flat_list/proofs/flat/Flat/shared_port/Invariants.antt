use Rattle.std.proofs.Common.{◌&&◌, not}
use Rattle.flat_list.specs.declared.header.First.TheVariants as firsts
use Rattle.flat_list.specs.Ports.{whole_order, is_reserved}
use Rattle.flat_list.specs.Connect.{suits_connect}
use Rattle.flat_list.proofs.PortAt.{Searched}
use Rattle.flat_list.proofs.flat.Flat.shared_port.Given as goal

abbrev pub invariant-loop-number : goal.invariant-loop-number
invariant-loop-number l = Searched (λ port. not (is_reserved l.self.header.range port) && suits_connect l.self l.section l.socket l.source l.to port) (whole_order l.self.header.range l.offset firsts.Even) l.number
