-- The first owner of which what is asked holds leaves its slot.
use Rattle.std.proofs.Common.{◌≡◌, Some, None, position, find, sym, ◌∙◌, ap}
use Rattle.bind_buckets.specs.Owners.{Listed}
use Rattle.bind_buckets.specs.Slots.{answers, has}
use Rattle.bind_buckets.specs.First.{drop_first}
use Rattle.bind_buckets.proofs.SlotSteps.{left_there, kept_leaving, none_left, first_there, none_there}
use Rattle.bind_buckets.proofs.owner_list.OwnerList.take.Goals as goal

pub returns-in_err-place-clause-gone : goal.returns-in_err-place-clause-gone
returns-in_err-place-clause-gone c =
    let slots = c.self.inside.slots.items in
    let nowhere : position (has c.args.asked) slots ≡ None = rw (← c.deref.ensures.value) (sym c.first.ensures.place ∙ c.in_err-place.was) in
    c.from_residual.ensures ∙ sym (none_there (answers c.args.asked) slots nowhere)
    ∙ ap (λ (v : Listed). find (answers c.args.asked) v.owners) c.self.view_is

pub returns-in_err-place-clause-owners : goal.returns-in_err-place-clause-owners
returns-in_err-place-clause-owners c =
    let slots = c.self.inside.slots.items in
    let nowhere : position (has c.args.asked) slots ≡ None = rw (← c.deref.ensures.value) (sym c.first.ensures.place ∙ c.in_err-place.was) in
    rw (← c.self.view_is) (none_left (answers c.args.asked) slots nowhere)

pub invariant_of-self : goal.invariant_of-self
invariant_of-self c =
    let slots = c.self.inside.slots.items in
    let at : position (has c.args.asked) slots ≡ Some c.in_ok-place.place = rw (← c.deref.ensures.value) (sym c.in_ok-place.ensures.place) in
    kept_leaving (answers c.args.asked) slots c.in_ok-place.place c.index_mut.result.now at c.index_mut.ensures.value c.self.inside.index c.self.inside.gone _ c.self.invariant

pub returns-clause-gone : goal.returns-clause-gone
returns-clause-gone c =
    let slots = c.self.inside.slots.items in
    let at : position (has c.args.asked) slots ≡ Some c.in_ok-place.place = rw (← c.deref.ensures.value) (sym c.in_ok-place.ensures.place) in
    sym (first_there (answers c.args.asked) slots c.in_ok-place.place c.index.result.now at c.index.ensures)
    ∙ ap (λ (v : Listed). find (answers c.args.asked) v.owners) c.self.view_is

pub returns-clause-owners : goal.returns-clause-owners
returns-clause-owners c =
    let slots = c.self.inside.slots.items in
    let at : position (has c.args.asked) slots ≡ Some c.in_ok-place.place = rw (← c.deref.ensures.value) (sym c.in_ok-place.ensures.place) in
    left_there (answers c.args.asked) slots c.in_ok-place.place c.index_mut.result.now at c.index_mut.ensures.value
    ∙ ap (λ (v : Listed). drop_first (answers c.args.asked) v.owners) c.self.view_is
