use Rattle.table_rule.specs.Calls.{me}
use Rattle.race_run.proofs.Items.{takes_packet, takes_skip, takes_short}
use Rattle.race_run.proofs.looker.look_item.Goals as goal

pub returns-in-Packet-clause-takes : goal.returns-in-Packet-clause-takes
returns-in-Packet-clause-takes g c = takes_packet c.args.table.now c.args.passes c.args.item.now c.in-Packet.packet (me c.args.pass.now.pass.steps) (me c.look_one.new.pass.pass.steps) c.look_one.result c.in-Packet.is c.look_one.ensures.up

pub returns-in-Skip-clause-takes : goal.returns-in-Skip-clause-takes
returns-in-Skip-clause-takes g c = takes_skip c.args.table.now c.args.passes c.args.item.now (me c.args.pass.now.pass.steps) c.in-Skip.is

pub returns-in-Short-clause-takes : goal.returns-in-Short-clause-takes
returns-in-Short-clause-takes g c = takes_short c.args.table.now c.args.passes c.args.item.now (me c.args.pass.now.pass.steps) c.in-Short.is
