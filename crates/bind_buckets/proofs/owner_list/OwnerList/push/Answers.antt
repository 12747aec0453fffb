-- A slot more, under the address of its owner.
use Rattle.std.proofs.Common.{◌≤◌, true, refl, sym, ap, subst}
use Rattle.bind_buckets.specs.declared.slot.Slot.{Slot}
use Rattle.bind_buckets.specs.Owners.{Listed}
use Rattle.bind_buckets.proofs.SlotsKept.{own_address, kept_pushed, same_kept}
use Rattle.bind_buckets.proofs.owner_list.OwnerList.push.Goals as goal

pub invariant_of-self : goal.invariant_of-self
invariant_of-self c =
    let i = c.self.inside in
    let y : Slot = record { owner = c.args.owner; here = true; filed = c.args.owner.addr } in
    let room : 1 ≤ i.index.room = subst (λ n. 1 ≤ n) (sym (ap (λ (v : Listed). v.room) c.self.view_is)) c.requires in
    same_kept _ _ _ _ _ _ _ c.push_reserved.ensures.items c.push.ensures c.push_reserved.ensures.capacity
    (kept_pushed i.slots.items i.index i.gone i.slots.cap c.self.invariant y room refl (own_address c.args.owner.addr))
