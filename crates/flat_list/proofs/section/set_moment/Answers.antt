use Rattle.std.proofs.Common.{◌≡◌, ◌∙◌, sym, ap, position, Some, None}
use Rattle.flat_list.specs.Sections.{has_number, at_moment}
use Rattle.flat_list.proofs.PutSection.{moment_at, moment_first}
use Rattle.flat_list.proofs.section.set_moment.Goals as goal

pub returns-in-Some-clause-set : goal.returns-in-Some-clause-set
returns-in-Some-clause-set c =
    let place : position (has_number c.args.number) c.args.sections.now.items ≡ Some c.in-Some.place =
    rw (← c.deref.ensures.value) (sym c.place_of_number.ensures ∙ c.in-Some.is) in
    moment_at c.args.header.now c.args.number _ c.args.moment _ c.index_mut.result.now _ place c.index_mut.ensures.value c.set_moment.ensures

pub returns-in_ok-push-in-None-clause-set : goal.returns-in_ok-push-in-None-clause-set
returns-in_ok-push-in-None-clause-set c =
    let place : position (has_number c.args.number) c.args.sections.now.items ≡ None =
    rw (← c.deref.ensures.value) (sym c.place_of_number.ensures ∙ c.in-None.is) in
    rw c.in_ok-push-in-None.ensures.items
    (moment_first c.args.header.now c.args.number c.args.moment _ _ place (c.set_moment-in-None.ensures ∙ ap (at_moment c.args.moment) c.new-section.ensures))
