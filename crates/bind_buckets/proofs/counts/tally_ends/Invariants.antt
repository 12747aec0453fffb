use Rattle.std.proofs.Common.{take}
use Rattle.bind_buckets.specs.Tally.{AreMade, IsTallyOf}
use Rattle.bind_buckets.specs.OwnerCounts.{place_by_end, is_grouped}
use Rattle.bind_buckets.specs.Slots.{owners_in}
use Rattle.bind_buckets.proofs.counts.tally_ends.Given as goal

abbrev pub invariant-loop-slot : goal.invariant-loop-slot
invariant-loop-slot l =
    record {
      made : AreMade l.ends;
      tallied : IsTallyOf (place_by_end l.stride) is_grouped l.ends (owners_in (take l.slot-index l.slots));
    }
