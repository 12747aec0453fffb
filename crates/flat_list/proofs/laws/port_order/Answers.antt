use Rattle.flat_list.proofs.PortOrder.{each_once}
use Rattle.flat_list.proofs.laws.port_order.Goals as goal

pub returns : goal.returns
returns c = each_once
