use Rattle.std.proofs.Common.{◌≡◌, ◌-◌, ◌≤◌, ◌<◌, ◌/◌, sym, ap, ◌∙◌, arith, get_or, length}
use Rattle.std.proofs.lemmas.List.{get_or_past}
use Rattle.flat_list.specs.Ports.{size, half_from, whole_order}
use Rattle.flat_list.proofs.PortAt.{first_half_at, second_half_at, order_length}
use Rattle.flat_list.proofs.ports.port_at.Goals as goal

pub returns-then-number-half : goal.returns-then-number-half
returns-then-number-half c =
    let r = c.args.range.now in
    let within : c.args.number < size r / 2 = omega arith in
    c.port_from.ensures ∙ sym (ap (λ xs. get_or xs c.args.number r.low) (c.distances-start.ensures.order r) ∙ first_half_at r _ _ c.args.number r.low within)

pub returns-then-number-half-2 : goal.returns-then-number-half-2
returns-then-number-half-2 c =
    let r = c.args.range.now in
    let past : size r / 2 ≤ c.args.number = omega arith in
    let same : c.args.number - c.size-half.result / 2 ≡ c.args.number - size r / 2 = omega arith in
    c.port_from-then-number-half-2.ensures ∙ ap (λ k. get_or (half_from r c.distances-start.result.1) k r.low) same
    ∙ sym (ap (λ xs. get_or xs c.args.number r.low) (c.distances-start.ensures.order r) ∙ second_half_at r _ _ c.args.number r.low past)

pub returns-else-number-half-2 : goal.returns-else-number-half-2
returns-else-number-half-2 c =
    let r = c.args.range.now in
    let order = whole_order r c.args.offset c.args.first in
    let past : length order ≤ c.args.number = omega (arith, order_length r c.args.offset c.args.first) in
    sym (get_or_past order c.args.number r.low past)
