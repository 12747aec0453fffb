use Rattle.std.proofs.Common.{subst}
use Rattle.bind_buckets.specs.Bucket.{IsSound}
use Rattle.bind_buckets.proofs.TurnSteps.{given_idle, given_gave}
use Rattle.bind_buckets.proofs.turning.give.Goals as goal

pub returns-clause-idle : goal.returns-clause-idle
returns-clause-idle c = given_idle c.args.turns.now c.args.pass.now c.give.new.pass c.args.turn c.requires.out (subst IsSound c.deref.ensures c.recall.ensures) c.give.ensures.table c.give.ensures.free c.give.ensures.view

pub returns-clause-gave : goal.returns-clause-gave
returns-clause-gave c = given_gave c.args.turns.now c.args.pass.now c.give.new.pass c.args.turn c.requires.out (subst IsSound c.deref.ensures c.recall.ensures) c.give.ensures.table c.give.ensures.free c.give.ensures.view
