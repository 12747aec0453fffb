use Rattle.std.proofs.Common.{◌<◌, ◌≤◌, ◌*◌, ◌/◌, ◌∙◌, sym, arith}
use Rattle.flat_list.specs.Ports.{size}
use Rattle.port_search.proofs.PortsLeft.{none_left, unreserved_here}
use Rattle.port_search.proofs.ports.first_unreserved.Goals as goal

pub returns-then-not-is_reserved-clause-some : goal.returns-then-not-is_reserved-clause-some
returns-then-not-is_reserved-clause-some c =
    let r = c.args.range.now in
    let within : c.loop-number.number < size r / 2 * 2 = omega (arith, c.loop-number-test.true, c.count-number-end.ensures.count) in
    unreserved_here r c.args.offset c.args.first c.args.from c.loop-number.number c.port_at-port.result c.loop-number.invariant within c.port_at-port.ensures
    (sym c.is_reserved.ensures ∙ c.if-not-is_reserved.true)

pub returns-clause-none : goal.returns-clause-none
returns-clause-none c =
    let r = c.args.range.now in
    let past : size r / 2 * 2 ≤ c.loop-number.number = omega (arith, c.loop-number-test.false, c.count-number-end.ensures.count) in
    c.loop-number.invariant.same ∙ none_left r c.args.offset c.args.first c.loop-number.number past
