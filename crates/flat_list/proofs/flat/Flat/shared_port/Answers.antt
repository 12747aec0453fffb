use Rattle.std.proofs.Common.{◌≡◌, ◌∙◌, ◌<◌, ◌≤◌, length, get_or, sym, ap, ◌&&◌, not}
use Rattle.flat_list.specs.declared.header.First.TheVariants as firsts
use Rattle.flat_list.specs.declared.header.Range.{Range}
use Rattle.flat_list.specs.Ports.{whole_order, is_reserved}
use Rattle.flat_list.specs.Connect.{suits_connect}
use Rattle.flat_list.proofs.PortAt.{searched_none, searched_more, searched_here, searched_all, find_unreserved, order_length}
use Rattle.flat_list.proofs.flat.Flat.shared_port.Goals as goal

pub loop-number-init : goal.loop-number-init
loop-number-init c = searched_none _ _

pub returns-then-can_connect_at : goal.returns-then-can_connect_at
returns-then-can_connect_at c =
    let range : Range = c.args.self.now.header.range in
    let same : c.self.inside.header.range ≡ range = ap (λ f. f.header.range) c.self.view_is in
    let order = whole_order range c.args.offset firsts.Even in
    let within : c.loop-number.number < length order = rw (order_length range c.args.offset firsts.Even) (rw (c.count-number-end.ensures.count, same) at c.loop-number-test.true) in
    let here : c.port_at-port.result ≡ get_or order c.loop-number.number range.low = rw same at c.port_at-port.ensures in
    sym (sym (find_unreserved range (suits_connect c.args.self.now c.args.section c.args.socket c.args.source c.args.to) order) ∙ searched_here (λ port. not (is_reserved range port) && suits_connect c.args.self.now c.args.section c.args.socket c.args.source c.args.to port) order c.loop-number.number c.port_at-port.result range.low c.loop-number.invariant within here (sym c.can_connect_at.ensures ∙ c.if-can_connect_at.true))

pub loop-number-preserved : goal.loop-number-preserved
loop-number-preserved c =
    let range : Range = c.args.self.now.header.range in
    let same : c.self.inside.header.range ≡ range = ap (λ f. f.header.range) c.self.view_is in
    let order = whole_order range c.args.offset firsts.Even in
    let within : c.loop-number.number < length order = rw (order_length range c.args.offset firsts.Even) (rw (c.count-number-end.ensures.count, same) at c.loop-number-test.true) in
    let here : c.port_at-port.result ≡ get_or order c.loop-number.number range.low = rw same at c.port_at-port.ensures in
    searched_more (λ port. not (is_reserved range port) && suits_connect c.args.self.now c.args.section c.args.socket c.args.source c.args.to port) order c.loop-number.number c.port_at-port.result range.low c.loop-number.invariant within here (sym c.can_connect_at.ensures ∙ c.if-can_connect_at.false)

pub returns : goal.returns
returns c =
    let range : Range = c.args.self.now.header.range in
    let same : c.self.inside.header.range ≡ range = ap (λ f. f.header.range) c.self.view_is in
    let order = whole_order range c.args.offset firsts.Even in
    let past : length order ≤ c.loop-number.number = rw (order_length range c.args.offset firsts.Even) (rw (c.count-number-end.ensures.count, same) at c.loop-number-test.false) in
    sym (sym (find_unreserved range (suits_connect c.args.self.now c.args.section c.args.socket c.args.source c.args.to) order) ∙ searched_all (λ port. not (is_reserved range port) && suits_connect c.args.self.now c.args.section c.args.socket c.args.source c.args.to port) order c.loop-number.number c.loop-number.invariant past)
