-- A place more, behind those that are linked.
use Rattle.bind_buckets.proofs.Linked.{linked_before}
use Rattle.bind_buckets.proofs.links.Links.push.Goals as goal

pub link-requires-clause-linked : goal.link-requires-clause-linked
link-requires-clause-linked c =
    let places = c.self.inside.places in
    rw (c.deref_mut.ensures.value, c.deref_mut-2.ensures.value, c.push_reserved.ensures.items, c.len-place.ensures, places.ok.0)
    (linked_before places.items c.self.inside.homes.items _ c.self.invariant.linked)
