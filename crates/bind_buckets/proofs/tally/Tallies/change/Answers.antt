use Rattle.std.proofs.Common.{sym, ◌∙◌}
use Rattle.bind_buckets.proofs.Tallied.{change_tallied, alike_tallied}
use Rattle.bind_buckets.proofs.tally.Tallies.change.Goals as goal

pub returns-clause-stays : goal.returns-clause-stays
returns-clause-stays c = λ place_of has_mark is become owners was_at at found e tallied.
    let less = rw c.tally_at.ensures at c.without-rest.ensures.counts in
    let more = rw (c.tally_at-tally.ensures, c.put.ensures) at c.with.ensures in
    rw (c.put-2.ensures, c.put.ensures)
    (change_tallied place_of has_mark c.args.self.now c.args.was.now c.args.owner.now c.without-rest.result c.with.result c.args.was_spot c.args.spot is become owners was_at c.requires.was_place at c.requires.place less more found e tallied)

pub returns-then-count_alike-clause-stays : goal.returns-then-count_alike-clause-stays
returns-then-count_alike-clause-stays c = λ place_of has_mark is become owners was_at at found e tallied.
    alike_tallied place_of has_mark c.args.self.now c.args.was.now c.args.owner.now is become owners (was_at ∙ c.is_same.ensures c.if-is_same.true ∙ sym at) (c.count_alike.ensures c.if-count_alike.true) found e tallied
