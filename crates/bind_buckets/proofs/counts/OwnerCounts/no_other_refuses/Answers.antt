use Rattle.std.proofs.Common.{◌∙◌, sym, ◌&&◌}
use Rattle.sock_card.specs.Conflict.{refuses}
use Rattle.bind_buckets.specs.First.{drop_first}
use Rattle.bind_buckets.specs.OwnerCounts.{end_tally, is_held, is_grouped, has_ends, both_rule_out}
use Rattle.bind_buckets.proofs.Counted.{none_left}
use Rattle.std.proofs.lemmas.Bool.{and_parts}
use Rattle.bind_buckets.proofs.Tallied.{made_if}
use Rattle.bind_buckets.proofs.RuledOut.{about, ruled_out, none_refuses_there, none_refuses_at, beside_own, about_own}
use Rattle.bind_buckets.proofs.counts.OwnerCounts.no_other_refuses.Goals as goal

pub returns-then-none_refuses-clause-none : goal.returns-then-none_refuses-clause-none
returns-then-none_refuses-clause-none c = λ told is owners found counted.
    let s = c.args.self.now in
    let a = c.args.owner.now in
    none_refuses_there s.stride a c.without-others.result (drop_first is owners) (sym c.none_refuses.ensures ∙ c.if-none_refuses.true)
    (c.without-others.ensures.counts _ is_held is owners (beside_own s.stride a) (sym c.is_held.ensures) found (rw c.at_port.ensures (counted.ports.counts _)))

pub returns-else-none_refuses-clause-none : goal.returns-else-none_refuses-clause-none
returns-else-none_refuses-clause-none c = λ told is owners found counted.
    let s = c.args.self.now in
    let a = c.args.owner.now in
    let here = about s.stride a.port 0 in
    let parts = and_parts (has_ends s) (both_rule_out c.without-others_there.result (end_tally s a.port 0) a) (sym c.both_rule_out.ensures ∙ told) in
    let ends = counted.ends (made_if s.by_end parts.0) in
    none_refuses_at s.stride a c.without-others_there.result (end_tally s a.port 0) (drop_first is owners) parts.1
    (c.without-others_there.ensures.counts _ is_grouped is owners (about_own s.stride a) (sym c.is_grouped.ensures) found (rw c.at_end-there.ensures (ends.counts _)))
    (λ any. none_left is (λ b. here b && refuses a b) owners (ruled_out here is_grouped a _ owners any (ends.counts _)))
