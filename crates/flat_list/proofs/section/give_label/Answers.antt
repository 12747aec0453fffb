use Rattle.std.proofs.Common.{◌≡◌, ◌∙◌, sym, ap, position, Some, None}
use Rattle.flat_list.specs.Sections.{has_number, with_label}
use Rattle.flat_list.proofs.LabelsGrow.{labels_are}
use Rattle.flat_list.proofs.PutSection.{read_at, gives_at, gives_first}
use Rattle.flat_list.proofs.section.give_label.Goals as goal

pub give-requires : goal.give-requires
give-requires c =
    let place : position (has_number c.args.number) c.args.sections.now.items ≡ Some c.in-Some.place =
    rw (← c.deref.ensures.value) (sym c.place_of_number.ensures ∙ c.in-Some.is) in
    let is = read_at c.args.header.now c.args.number _ _ _ place c.index_mut-section.ensures.value in
    rw (is, labels_are c.args.header.now c.args.number _) c.requires.room

pub returns-in_ok-give-in-Some-clause-given : goal.returns-in_ok-give-in-Some-clause-given
returns-in_ok-give-in-Some-clause-given c =
    let place : position (has_number c.args.number) c.args.sections.now.items ≡ Some c.in-Some.place =
    rw (← c.deref.ensures.value) (sym c.place_of_number.ensures ∙ c.in-Some.is) in
    gives_at c.args.header.now _ _ _ _ c.index_mut-section.result.now _ _ place c.index_mut-section.ensures.value c.in_ok-give-in-Some.ensures.given c.next_name-name.ensures

pub returns-in_ok-push-in-None-clause-given : goal.returns-in_ok-push-in-None-clause-given
returns-in_ok-push-in-None-clause-given c =
    let place : position (has_number c.args.number) c.args.sections.now.items ≡ None =
    rw (← c.deref.ensures.value) (sym c.place_of_number.ensures ∙ c.in-None.is) in
    rw c.in_ok-push-in-None.ensures.items
    (gives_first c.args.header.now _ _ _ _ _ place (c.in_ok-give-in-None.ensures.given ∙ ap (with_label c.args.label) c.new-section.ensures)
    (rw c.new-section.ensures at c.next_name-name-in-None.ensures))
