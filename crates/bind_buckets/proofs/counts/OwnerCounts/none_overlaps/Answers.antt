use Rattle.bind_buckets.proofs.RuledOut.{none_overlaps_it}
use Rattle.bind_buckets.proofs.counts.OwnerCounts.none_overlaps.Goals as goal

pub returns-clause-none : goal.returns-clause-none
returns-clause-none c = λ told owners counted.
    none_overlaps_it c.args.self.now.stride c.args.owner.now c.at_port.result owners told (rw c.at_port.ensures (counted.ports.counts _))
