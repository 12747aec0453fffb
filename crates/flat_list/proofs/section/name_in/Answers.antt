use Rattle.std.proofs.Common.{◌≡◌, ◌∙◌, sym, find, Some}
use Rattle.flat_list.specs.Sections.{has_number}
use Rattle.flat_list.proofs.PutSection.{names_found}
use Rattle.flat_list.proofs.section.name_in.Goals as goal

pub returns-in-Some : goal.returns-in-Some
returns-in-Some c =
    let found : find (has_number c.args.number) c.args.sections.now ≡ Some c.in-Some.section.now = sym (rw c.in-Some.is at c.section_of.ensures) in
    c.name_of.ensures ∙ names_found c.args.number c.args.sections.now c.in-Some.section.now c.args.label.now found
