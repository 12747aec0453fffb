use Rattle.bind_buckets.proofs.WantedBy.{port_wanted, end_wanted}
use Rattle.std.proofs.lemmas.Bool.{eqb-true}
use Rattle.bind_buckets.proofs.slot.wanted_by.Goals as goal

pub returns-then-newcomer-eq0 : goal.returns-then-newcomer-eq0
returns-then-newcomer-eq0 c = λ s o. port_wanted c.args.newcomer.now s.owner o

pub returns-else-newcomer-eq0 : goal.returns-else-newcomer-eq0
returns-else-newcomer-eq0 c = λ s o.
    end_wanted c.args.newcomer.now s.owner (λ zero. c.if-newcomer-eq0.false (eqb-true _ _ zero)) o
