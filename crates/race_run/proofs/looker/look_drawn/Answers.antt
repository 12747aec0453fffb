use Rattle.std.proofs.Common.{◌<◌, ◌∙◌, length, ap, arith, length-append, ◌∷◌, []}
use Rattle.std.proofs.lemmas.List.{get_or_default}
use Rattle.capture_reader.specs.declared.packet.Item.TheVariants as items
use Rattle.table_rule.specs.Calls.{me}
use Rattle.tickets.specs.Passes as draw
use Rattle.tickets.specs.declared.view.TicketView.{TicketView}
use Rattle.race_run.proofs.Items.{all_more, drawn_more}
use Rattle.race_run.proofs.looker.look_drawn.Goals as goal

pub loop-item-preserved : goal.loop-item-preserved
loop-item-preserved g c =
    let i = c.loop-item.invariant in
    let x = c.in-Some.ensures in
    let e = c.look_item-looked.ensures in
    let told = c.loop-item.told.items in
    let inside : c.in-Some.item < length c.args.items.now = omega (arith, x.below, c.requires.tickets) in
    record {
      looks = e.looks;
      groups = e.groups;
      part = e.part ∙ i.part;
      table = x.table;
      still = x.still;
      own = ap (λ (v : TicketView). v.parts) x.draw.is ∙ i.own;
      drawn = ap (λ (v : TicketView). v.drawn) x.draw.is ∙ drawn_more told c.push.new.self.items c.in-Some.item c.look_item-looked.result (draw.drawn c.loop-item.draws) i.drawn c.in_ok-push.ensures.items;
      takes = all_more told c.push.new.self.items c.in-Some.item c.look_item-looked.result (draw.drawn c.loop-item.draws) i.drawn c.in_ok-push.ensures.items
          c.args.table.now c.args.passes c.args.items.now (me c.args.pass.now.pass.steps) (me c.loop-item.pass.pass.steps) (me c.look_item-looked.new.pass.pass.steps) _ i.takes e.takes (get_or_default c.args.items.now c.in-Some.item items.Skip _ inside) x.draw.above;
    }

pub returns : goal.returns
returns g c =
    let i = c.loop-item.invariant in
    let x = c.in_default.ensures in
    let m = x.draw in
    record {
      looks = i.looks;
      groups = i.groups;
      part = i.part;
      draws = record { table = x.table; part = ap (λ (v : TicketView). v.parts) m.is ∙ i.own; drawn = ap (λ (v : TicketView). v.drawn) m.is ∙ i.drawn };
      missed = omega (arith, ap (λ (v : TicketView). length v.vain) m.is, length-append (draw.vain c.loop-item.draws) (m.number ∷ []));
      takes = i.takes;
    }
