use Rattle.std.proofs.Common.{sym, ◌∙◌}
use Rattle.bind_buckets.proofs.Tallied.{made_if}
use Rattle.bind_buckets.proofs.RuledOut.{no_mate_there}
use Rattle.bind_buckets.proofs.counts.OwnerCounts.no_mate.Goals as goal

pub returns-then-has_ends-clause-none : goal.returns-then-has_ends-clause-none
returns-then-has_ends-clause-none c = λ told owners counted.
    let s = c.args.self.now in
    let ends = counted.ends (made_if s.by_end (sym c.has_ends.ensures ∙ c.if-has_ends.true)) in
    no_mate_there s.stride c.args.owner.now c.at_end.result owners told (rw c.at_end.ensures (ends.counts _))
