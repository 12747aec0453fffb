use Rattle.std.proofs.Common.{◌∙◌, sym}
use Rattle.bind_buckets.specs.OwnerCounts.{end_tally, is_grouped, has_ends, both_rule_out}
use Rattle.std.proofs.lemmas.Bool.{and_parts}
use Rattle.bind_buckets.proofs.Tallied.{made_if}
use Rattle.bind_buckets.proofs.RuledOut.{about, ruled_out, none_refuses_there, none_refuses_at}
use Rattle.bind_buckets.proofs.counts.OwnerCounts.none_refuses.Goals as goal

pub returns-then-none_refuses-clause-none : goal.returns-then-none_refuses-clause-none
returns-then-none_refuses-clause-none c = λ told owners counted.
    let s = c.args.self.now in
    none_refuses_there s.stride c.args.owner.now c.at_port.result owners (sym c.none_refuses.ensures ∙ c.if-none_refuses.true) (rw c.at_port.ensures (counted.ports.counts _))

pub returns-else-none_refuses-clause-none : goal.returns-else-none_refuses-clause-none
returns-else-none_refuses-clause-none c = λ told owners counted.
    let s = c.args.self.now in
    let a = c.args.owner.now in
    let parts = and_parts (has_ends s) (both_rule_out c.at_end-there.result (end_tally s a.port 0) a) (sym c.both_rule_out.ensures ∙ told) in
    let ends = counted.ends (made_if s.by_end parts.0) in
    none_refuses_at s.stride a c.at_end-there.result (end_tally s a.port 0) owners parts.1 (rw c.at_end-there.ensures (ends.counts _))
    (λ any. ruled_out (about s.stride a.port 0) is_grouped a _ owners any (ends.counts _))
