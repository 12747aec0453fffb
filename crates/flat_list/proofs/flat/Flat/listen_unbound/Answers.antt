use Rattle.std.proofs.Common.{List, Some, None, sym, ap, ◌∙◌}
use Rattle.flat_list.specs.declared.command.Reply.TheVariants as replies
use Rattle.flat_list.specs.declared.socket.Socket.{Socket}
use Rattle.flat_list.specs.Outcome.{Outcome}
use Rattle.flat_list.proofs.Searches.{is_drawn, listen_unbound_is}
use Rattle.flat_list.proofs.flat.Flat.listen_unbound.Goals as goal

pub returns-in_default-clause-step : goal.returns-in_default-clause-step
returns-in_default-clause-step c =
    let drawn = is_drawn c.args.self.now c.args.section c.draw_offset-offset.result c.self.inside.header c.self.inside.sockets.items c.self.inside.groups.items c.reserve.new.self.items c.self.inside.sections.items c.draw_offset-offset.new.sections.items
    c.self.view_is c.reserve.ensures.items c.draw_offset-offset.ensures in
    listen_unbound_is c.args.self.now c.args.section c.draw_offset-offset.result _ c.args.socket None drawn (sym c.free_port.ensures ∙ c.in_default.is)

pub returns-in-Some-listen_refusal-clause-step : goal.returns-in-Some-listen_refusal-clause-step
returns-in-Some-listen_refusal-clause-step c =
    let drawn = is_drawn c.args.self.now c.args.section c.draw_offset-offset.result c.self.inside.header c.self.inside.sockets.items c.self.inside.groups.items c.reserve.new.self.items c.self.inside.sections.items c.draw_offset-offset.new.sections.items
    c.self.view_is c.reserve.ensures.items c.draw_offset-offset.ensures in
    listen_unbound_is c.args.self.now c.args.section c.draw_offset-offset.result _ c.args.socket (Some c.in-Some.port) drawn (sym c.free_port.ensures ∙ c.in-Some.is)
    ∙ rw c.at_port-bound.ensures at c.in-Some-listen_refusal.ensures.refusal

pub returns-clause-step : goal.returns-clause-step
returns-clause-step c =
    let drawn = is_drawn c.args.self.now c.args.section c.draw_offset-offset.result c.self.inside.header c.self.inside.sockets.items c.self.inside.groups.items c.reserve.new.self.items c.self.inside.sections.items c.draw_offset-offset.new.sections.items
    c.self.view_is c.reserve.ensures.items c.draw_offset-offset.ensures in
    let outcome : List Socket → Outcome = λ xs. record {
      flat = record { header = c.self.inside.header; sockets = xs; groups = c.enter.new.groups.items; sections = c.draw_offset-offset.new.sections.items };
      reply = replies.Port c.in-Some.port;
    } in
    let entered = rw c.deref.ensures.value at c.enter.ensures in
    listen_unbound_is c.args.self.now c.args.section c.draw_offset-offset.result _ c.args.socket (Some c.in-Some.port) drawn (sym c.free_port.ensures ∙ c.in-Some.is)
    ∙ rw c.at_port-bound.ensures at (c.in_default-listen_refusal.ensures.listens c.enter.new.groups.items entered)
    ∙ ap outcome (sym (rw (c.listening.ensures, c.at_port-bound.ensures) at c.put.ensures))
