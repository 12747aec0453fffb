-- The first slot that has an owner of the name is left out.
use Rattle.std.proofs.Common.{◌≡◌, position, find, ◌∙◌, ap}
use Rattle.bind_buckets.specs.declared.slot.Asked.TheVariants as asks
use Rattle.bind_buckets.specs.Owners.{Listed}
use Rattle.bind_buckets.specs.First.{drop_first}
use Rattle.bind_buckets.specs.OwnerStep.{has_name}
use Rattle.bind_buckets.specs.Slots.{answers, has}
use Rattle.bind_buckets.proofs.Beside.{without_named}
use Rattle.bind_buckets.proofs.owner_list.OwnerList.first_other.Goals as goal

pub returns : goal.returns
returns c =
    let slots = c.self.inside.slots.items in
    let place : c.first-but.result ≡ position (has (asks.Named c.args.name)) slots = rw (← c.deref.ensures.value) c.first-but.ensures.place in
    rw c.deref-2.ensures.value at c.owner_of.ensures
    ∙ ap (find (answers c.args.asked))
    (without_named c.args.name slots c.first-but.result place ∙ ap (λ (v : Listed). drop_first (has_name c.args.name) v.owners) c.self.view_is)
