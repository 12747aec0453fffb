use Rattle.std.proofs.Common.{◌≡◌, None, Some, sym, ap, ◌∙◌, subst}
use Rattle.std.specs.Option.{option_map, option_copied}
use Rattle.table_model.specs.Own.{Mine}
use Rattle.section_machine.specs.Opened.{owner_of}
use Rattle.section_machine.specs.Sections.{Kept}
use Rattle.section_machine.proofs.Opened.{socket_at}
use Rattle.section_machine.proofs.machine.Machine.owner_of.Goals as goal

pub returns-in_err-socket : goal.returns-in_err-socket
returns-in_err-socket c =
    let k = c.self.inside in
    let there = socket_at k.labels c.at.ensures.names k.moment k.offsets k.waits c.args.number c.checked_sub.result c.checked_sub.ensures in
    let none : owner_of c.args.self.now.own c.args.number ≡ None = subst (λ (x : Kept). owner_of x.own c.args.number ≡ None) c.self.view_is (ap (option_map (λ (m : Mine). m.owner)) (there ∙ sym c.in_err-socket.ensures.socket)) in
    ap option_copied c.from_residual.ensures ∙ sym none

pub returns : goal.returns
returns c =
    let k = c.self.inside in
    let there = socket_at k.labels c.at.ensures.names k.moment k.offsets k.waits c.args.number c.checked_sub.result c.checked_sub.ensures in
    ap Some c.owner.ensures.owner
    ∙ sym (ap (option_map (λ (m : Mine). m.owner)) (there ∙ sym c.in_ok-socket.ensures.socket))
    ∙ ap (λ (x : Kept). owner_of x.own c.args.number) c.self.view_is
