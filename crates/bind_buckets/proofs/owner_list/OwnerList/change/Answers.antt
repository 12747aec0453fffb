-- The owner changes in the slot of the first of its name.
use Rattle.std.proofs.Common.{◌≡◌, Some, None, position, find, sym, ◌∙◌, ap, subst}
use Rattle.std.proofs.lemmas.Bool.{eqb-true}
use Rattle.sock_card.specs.declared.owner.Owner.{Owner}
use Rattle.bind_buckets.specs.declared.slot.Asked.TheVariants as asks
use Rattle.bind_buckets.specs.Owners.{Listed}
use Rattle.bind_buckets.specs.OwnerStep.{has_name}
use Rattle.bind_buckets.specs.Slots.{has, owners_in, StandsThere}
use Rattle.bind_buckets.specs.Change.{becomes, CanBecome}
use Rattle.bind_buckets.specs.First.{change_first}
use Rattle.bind_buckets.proofs.Named.{replaced, unreplaced}
use Rattle.bind_buckets.proofs.SlotSteps.{first_there, put_there, kept_putting, none_there, answers_there, becomes_named, becomes_there}
use Rattle.bind_buckets.proofs.owner_list.OwnerList.change.Goals as goal

pub returns-in_err-place-clause-was : goal.returns-in_err-place-clause-was
returns-in_err-place-clause-was c =
    let slots = c.self.inside.slots.items in
    let nowhere : position (has (asks.Named c.args.name)) slots ≡ None = rw (← c.deref.ensures.value) (sym c.first.ensures.place ∙ c.in_err-place.was) in
    c.from_residual.ensures ∙ sym (none_there (has_name c.args.name) slots nowhere)
    ∙ ap (λ (v : Listed). find (has_name c.args.name) v.owners) c.self.view_is

pub returns-in_err-place-clause-owners : goal.returns-in_err-place-clause-owners
returns-in_err-place-clause-owners c =
    let slots = c.self.inside.slots.items in
    let nowhere : position (has (asks.Named c.args.name)) slots ≡ None = rw (← c.deref.ensures.value) (sym c.first.ensures.place ∙ c.in_err-place.was) in
    rw (← c.self.view_is) (sym (unreplaced (has_name c.args.name) (becomes c.args.change) (owners_in slots) (none_there (has_name c.args.name) slots nowhere)))

pub invariant_of-self : goal.invariant_of-self
invariant_of-self c =
    let slots = c.self.inside.slots.items in
    let is = has_name c.args.name in
    let k = c.args.change in
    let a = c.index.result.now.owner in
    let at : position (has (asks.Named c.args.name)) slots ≡ Some c.in_ok-place.place = rw (← c.deref.ensures.value) (sym c.in_ok-place.ensures.place) in
    let found : find is (owners_in slots) ≡ Some a = first_there is slots c.in_ok-place.place c.index.result.now at c.index.ensures in
    let can : CanBecome k (find is (owners_in slots)) = subst (λ (v : Listed). CanBecome k (find is v.owners)) (sym c.self.view_is) c.requires in
    let there : StandsThere (becomes k a) (find is (owners_in slots)) = subst (StandsThere (becomes k a)) (sym found) (becomes_there k a (subst (CanBecome k) found can)) in
    let stands : StandsThere c.of.result (find is (owners_in slots)) = subst (λ (o : Owner). StandsThere o (find is (owners_in slots))) (sym c.of.ensures) there in
    let named = eqb-true _ _ (answers_there is slots c.in_ok-place.place c.index.result.now at c.index.ensures) in
    let here = eqb-true _ _ (answers_there is slots c.in_ok-place.place c.index_mut.result.now at c.index_mut.ensures.value) in
    let same = ap (λ (o : Owner). o.name) c.of.ensures ∙ becomes_named k a ∙ named ∙ sym here in
    kept_putting is slots c.in_ok-place.place c.index_mut.result.now at c.index_mut.ensures.value c.of.result same stands c.self.inside.index c.self.inside.gone _ c.self.invariant

pub returns-clause-was : goal.returns-clause-was
returns-clause-was c =
    let slots = c.self.inside.slots.items in
    let at : position (has (asks.Named c.args.name)) slots ≡ Some c.in_ok-place.place = rw (← c.deref.ensures.value) (sym c.in_ok-place.ensures.place) in
    sym (first_there (has_name c.args.name) slots c.in_ok-place.place c.index.result.now at c.index.ensures)
    ∙ ap (λ (v : Listed). find (has_name c.args.name) v.owners) c.self.view_is

pub returns-clause-owners : goal.returns-clause-owners
returns-clause-owners c =
    let slots = c.self.inside.slots.items in
    let is = has_name c.args.name in
    let at : position (has (asks.Named c.args.name)) slots ≡ Some c.in_ok-place.place = rw (← c.deref.ensures.value) (sym c.in_ok-place.ensures.place) in
    let found = first_there is slots c.in_ok-place.place c.index.result.now at c.index.ensures in
    put_there is slots c.in_ok-place.place c.index_mut.result.now at c.index_mut.ensures.value c.of.result
    ∙ ap (λ (o : Owner). change_first is (λ _. o) (owners_in slots)) c.of.ensures
    ∙ replaced is (becomes c.args.change) (owners_in slots) c.index.result.now.owner found
    ∙ ap (λ (v : Listed). change_first is (becomes c.args.change) v.owners) c.self.view_is
