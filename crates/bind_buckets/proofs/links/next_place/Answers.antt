-- One place more is looked at.
use Rattle.std.proofs.Common.{subst}
use Rattle.bind_buckets.specs.Links.{place_after}
use Rattle.bind_buckets.proofs.Sought.{IsSought, goes_on, fewer_left}
use Rattle.bind_buckets.proofs.links.next_place.Goals as goal

pub loop-next-preserved : goal.loop-next-preserved
loop-next-preserved c =
    rw c.get-next.ensures
    (goes_on c.args.key c.args.places.now c.args.homes.now (place_after c.args.after) c.in-Some.place
    (subst (IsSought c.args.key c.args.places.now c.args.homes.now (place_after c.args.after)) c.in-Some.is c.loop-next.invariant)
    c.index-places-place.result c.index-places-place.is c.if-there-key.false c.requires.linked)

pub loop-next-smaller : goal.loop-next-smaller
loop-next-smaller c =
    rw (c.get-next.ensures, c.in-Some.is)
    (fewer_left c.args.key c.args.places.now c.args.homes.now (place_after c.args.after) c.in-Some.place
    (subst (IsSought c.args.key c.args.places.now c.args.homes.now (place_after c.args.after)) c.in-Some.is c.loop-next.invariant)
    c.index-places-place.result c.index-places-place.is c.requires.linked)
