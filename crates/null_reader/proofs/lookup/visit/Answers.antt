use Rattle.std.proofs.Common.{arith}
use Rattle.null_reader.proofs.LookViews.{at_take, dead_more, visited_dead, visited_better, changed_nth, visited_changed}
use Rattle.null_reader.proofs.lookup.visit.Goals as goal
use Rattle.table_rule.specs.Calls.{me}

pub step_take_best-requires-clause-at : goal.step_take_best-requires-clause-at
step_take_best-requires-clause-at g c = at_take c.args.slot c.args.key c.args.least c.args.best c.key_rank-rank_before.result (me c.args.steps.now) (me c.key_rank-rank_before.new.steps) c.requires.at c.key_rank-rank_before.ensures.keyed

pub step_put_dead-requires-clause-more : goal.step_put_dead-requires-clause-more
step_put_dead-requires-clause-more g c = dead_more c.args.slot c.args.key c.args.least c.args.best c.key_rank-rank_before.result (me c.args.steps.now) (me c.key_rank-rank_before.new.steps) c.requires.at c.key_rank-rank_before.ensures.keyed (me c.step_take_best.new.steps) (c.step_take_best.ensures.dead (λ live. omega (arith, live, c.if-step_take_best-lt-LEAST_LIVE.true))) c.step_take_best.ensures.counted

pub returns-then-step_take_best-lt-LEAST_LIVE-clause-visited : goal.returns-then-step_take_best-lt-LEAST_LIVE-clause-visited
returns-then-step_take_best-lt-LEAST_LIVE-clause-visited g c = visited_dead c.args.slot c.args.key c.args.least c.args.best c.key_rank-rank_before.result (me c.args.steps.now) (me c.key_rank-rank_before.new.steps) c.requires.at c.key_rank-rank_before.ensures.keyed (me c.step_take_best.new.steps) (c.step_take_best.ensures.dead (λ live. omega (arith, live, c.if-step_take_best-lt-LEAST_LIVE.true))) (me c.step_put_dead.new.steps) c.step_put_dead.ensures.view

pub step_put_nth-requires-clause-nth : goal.step_put_nth-requires-clause-nth
step_put_nth-requires-clause-nth g c = changed_nth c.args.slot c.args.key c.args.least c.args.best c.key_rank-rank_before.result (me c.args.steps.now) (me c.key_rank-rank_before.new.steps) c.requires.at c.key_rank-rank_before.ensures.keyed (me c.step_take_best.new.steps) (c.step_take_best.ensures.live (omega (arith, c.if-step_take_best-lt-LEAST_LIVE.false))) (me c.check.new.steps) c.in-None.ensures.checked

pub returns-in-Some-clause-visited : goal.returns-in-Some-clause-visited
returns-in-Some-clause-visited g c = visited_better c.args.slot c.args.key c.args.least c.args.best c.key_rank-rank_before.result (me c.args.steps.now) (me c.key_rank-rank_before.new.steps) c.requires.at c.key_rank-rank_before.ensures.keyed (me c.step_take_best.new.steps) (c.step_take_best.ensures.live (omega (arith, c.if-step_take_best-lt-LEAST_LIVE.false))) (me c.check.new.steps) c.in-Some.card (omega (arith, c.if-rank_before-least.false)) c.in-Some.ensures.checked

pub returns-in-None-clause-visited : goal.returns-in-None-clause-visited
returns-in-None-clause-visited g c = visited_changed c.args.slot c.args.key c.args.least c.args.best c.key_rank-rank_before.result (me c.args.steps.now) (me c.key_rank-rank_before.new.steps) c.requires.at c.key_rank-rank_before.ensures.keyed (me c.step_take_best.new.steps) (c.step_take_best.ensures.live (omega (arith, c.if-step_take_best-lt-LEAST_LIVE.false))) (me c.check.new.steps) c.in-None.ensures.checked (me c.step_put_nth.new.steps) c.step_put_nth.ensures.view
