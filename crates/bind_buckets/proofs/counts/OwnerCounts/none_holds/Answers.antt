use Rattle.bind_buckets.proofs.RuledOut.{none_holds_it}
use Rattle.bind_buckets.proofs.counts.OwnerCounts.none_holds.Goals as goal

pub returns-clause-none : goal.returns-clause-none
returns-clause-none c = λ told owners counted net.
    none_holds_it c.args.self.now.stride c.args.port net c.at_port.result owners told (rw c.at_port.ensures (counted.ports.counts _))
