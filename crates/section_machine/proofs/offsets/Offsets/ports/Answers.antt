use Rattle.std.proofs.Common.{length, ap, arith}
use Rattle.section_machine.proofs.Searches.{order_few}
use Rattle.section_machine.proofs.offsets.Offsets.ports.Goals as goal

pub returns-clause-few : goal.returns-clause-few
returns-clause-few c =
    let r = c.self.inside.range in
    let few = c.size-size.ensures.bound in
    let is = c.size-size.ensures.size in
    omega (arith, order_few r c.if-begins.offset c.args.first, ap length c.new.ensures.order, is, few)
