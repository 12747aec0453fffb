use Rattle.bind_buckets.proofs.Tallied.{go_tallied}
use Rattle.bind_buckets.proofs.tally.Tallies.go.Goals as goal

pub returns-clause-stays : goal.returns-clause-stays
returns-clause-stays c = λ place_of has_mark is owners at found tallied.
    let less = rw c.tally_at-tally.ensures at c.without.ensures.counts in
    rw c.put.ensures (go_tallied place_of has_mark c.args.self.now c.args.owner.now c.without.result c.args.spot is owners at c.requires.place less found tallied)
