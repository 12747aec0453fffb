use Rattle.std.proofs.Common.{◌∙◌, sym, ap, ap₂, subst, List}
use Rattle.flat_list.specs.declared.command.Command.{Command}
use Rattle.sock_script.specs.Reading.{MayCome, Draft}
use Rattle.sock_script.proofs.LastSection.{none_made, refused, added, when_told, both_told}
use Rattle.sock_script.proofs.draft.Draft.add_command.Goals as goal

pub returns-in_default : goal.returns-in_default
returns-in_default c next h =
    let none = none_made c.self.inside.finished.items c.self.inside.last c.in_default.is c.self.invariant in
    subst (λ s. MayCome c.args.mode s c.args.command) (sym (ap (λ d. d.sections) c.self.view_is) ∙ none) h.0

pub returns : goal.returns
returns c =
    let with_sections : Draft → List (List Command) → Draft = λ d s. record d { sections = s } in
    let sections = ap (λ (d : Draft). d.sections) c.self.view_is in
    when_told c.add.result _ _
    (λ h.
    let more = added c.args.mode c.args.command c.self.inside.finished.items c.self.inside.last c.in-Some.section _ _ c.in-Some.is sections (sym h.1) h.0 in
    (more.0, ap₂ with_sections c.self.view_is more.1))
    (λ h next k. refused c.args.mode c.args.command c.self.inside.finished.items c.self.inside.last c.in-Some.section _ c.in-Some.is sections (sym h.1) k.0)
    (both_told c.add.result _ _ c.add.ensures.added c.add.ensures.told)
