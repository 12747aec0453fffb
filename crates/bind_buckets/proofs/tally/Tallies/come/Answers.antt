use Rattle.bind_buckets.proofs.Tallied.{come_tallied}
use Rattle.bind_buckets.proofs.tally.Tallies.come.Goals as goal

pub returns-clause-stays : goal.returns-clause-stays
returns-clause-stays c = λ made place_of has_mark owners at tallied.
    let more = rw c.tally_at-tally.ensures at c.with.ensures in
    rw c.put.ensures (come_tallied place_of has_mark c.args.self.now c.args.owner.now c.with.result c.args.spot owners at c.requires.place made more tallied)
