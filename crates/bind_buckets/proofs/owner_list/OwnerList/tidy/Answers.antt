-- What stays is filed anew.
use Rattle.std.proofs.Common.{◌≡◌, ◌+◌, ◌≤◌, length, filter, refl, ◌∙◌, ap, arith, vec_capacity}
use Rattle.std.proofs.lemmas.List.{length-map}
use Rattle.bind_buckets.specs.Owners.{Listed}
use Rattle.bind_buckets.specs.Slots.{owners_in, names_in, ports_in, ends_in}
use Rattle.bind_buckets.proofs.OwnersIn.{is_here, owners_kept}
use Rattle.bind_buckets.proofs.SlotsKept.{name_of, kept_tidy, same_kept}
use Rattle.bind_buckets.proofs.owner_list.OwnerList.tidy.Goals as goal

pub invariant_of-self : goal.invariant_of-self
invariant_of-self c =
    let i = c.self.inside in
    let old = i.slots.items in
    let kept = c.self.invariant in
    let stay : c.deref.result.now ≡ filter is_here old = c.deref.ensures.value ∙ c.give_up_left.ensures.items in
    let filed = c.file_all.ensures in
    let names : c.file_all.new.index.names ≡ names_in (filter is_here old) = rw (c.clear.ensures, stay) at filed.names in
    let ports : c.file_all.new.index.ports ≡ ports_in (filter is_here old) = rw (c.clear.ensures, stay) at filed.ports in
    let ends : c.file_all.new.index.ends ≡ ends_in (filter is_here old) = rw (c.clear.ensures, stay) at filed.ends in
    let made : c.file_all.new.index.room + length (filter is_here old) ≡ i.index.room + length i.index.names = rw (c.clear.ensures, stay) at filed.room in
    let many : length i.index.names ≡ length old = ap length kept.filed.names ∙ length-map old name_of in
    let room : c.file_all.new.index.room + length (filter is_here old) ≤ vec_capacity i.slots = let most = kept.room in omega arith in
    same_kept _ _ _ _ _ _ _ c.give_up_left.ensures.items refl c.give_up_left.ensures.capacity
    (kept_tidy old i.index i.gone _ kept c.file_all.new.index names ports ends room)

pub returns-clause-owners : goal.returns-clause-owners
returns-clause-owners c =
    ap owners_in c.give_up_left.ensures.items ∙ owners_kept c.self.inside.slots.items
    ∙ ap (λ (v : Listed). v.owners) c.self.view_is
