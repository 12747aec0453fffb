use Rattle.std.proofs.Common.{length}
use Rattle.bind_buckets.specs.Links.{place_after}
use Rattle.bind_buckets.proofs.Sought.{IsSought, places_left}
use Rattle.bind_buckets.proofs.links.next_place.Given as goal

abbrev pub invariant-loop-next : goal.invariant-loop-next
invariant-loop-next l = IsSought l.key l.places l.homes (place_after l.fn.after) l.next

abbrev pub decreases-loop-next : goal.decreases-loop-next
decreases-loop-next l = places_left l.next (length l.places)
