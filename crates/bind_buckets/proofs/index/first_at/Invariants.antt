use Rattle.std.proofs.Common.{length}
use Rattle.bind_buckets.specs.Slots.{earlier}
use Rattle.bind_buckets.proofs.Searched.{IsSearched}
use Rattle.bind_buckets.proofs.Sought.{places_left}
use Rattle.bind_buckets.proofs.index.first_at.Given as goal

abbrev pub invariant-loop-place : goal.invariant-loop-place
invariant-loop-place l =
    IsSearched l.asked l.but l.fn.one l.other l.links.keys l.slots l.near l.far

abbrev pub decreases-loop-place : goal.decreases-loop-place
decreases-loop-place l = places_left (earlier l.near l.far) (length l.links.keys)
