use Rattle.flat_list.proofs.PortOrder.{each_once}
use Rattle.port_search.proofs.ports.Ports.new.Goals as goal

pub returns-clause-each_once : goal.returns-clause-each_once
returns-clause-each_once c = each_once c.args.range c.args.offset c.args.first c.requires.even
