use Rattle.std.proofs.Common.{arith}
use Rattle.demux.proofs.Sights.{taken, learnt, stands_there}
use Rattle.demux.proofs.group.sight.Goals as goal
use Rattle.table_rule.specs.Calls.{me}

pub card_of-card-requires-clause-taken : goal.card_of-card-requires-clause-taken
card_of-card-requires-clause-taken g c = taken (me c.args.steps.now) (me c.step_take.new.steps) c.args.slot (c.step_take.ensures.live (omega (arith, c.if-step_take-lt-LEAST_LIVE.false)))

pub step_put_seen-requires-clause-learnt : goal.step_put_seen-requires-clause-learnt
step_put_seen-requires-clause-learnt g c = learnt (me c.args.steps.now) (me c.step_take.new.steps) c.args.slot (c.step_take.ensures.live (omega (arith, c.if-step_take-lt-LEAST_LIVE.false))) (me c.card_of-card.new.steps) c.card_of-card.result c.card_of-card.ensures.card

pub returns-clause-stands : goal.returns-clause-stands
returns-clause-stands g c = stands_there (me c.args.steps.now) (me c.step_take.new.steps) c.args.slot (c.step_take.ensures.live (omega (arith, c.if-step_take-lt-LEAST_LIVE.false))) (me c.card_of-card.new.steps) c.card_of-card.result c.card_of-card.ensures.card c.step_put_seen.ensures.stands
