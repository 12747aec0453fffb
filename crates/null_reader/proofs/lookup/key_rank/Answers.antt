use Rattle.null_reader.proofs.LookViews.{at_second, both_known}
use Rattle.null_reader.proofs.lookup.key_rank.Goals as goal
use Rattle.table_rule.specs.Calls.{me}

pub step_read_peeked-ports-requires-clause-at : goal.step_read_peeked-ports-requires-clause-at
step_read_peeked-ports-requires-clause-at g c = at_second c.args.slot c.args.key c.step_read_peeked-ends.result (me c.args.steps.now) (me c.step_read_peeked-ends.new.steps) c.requires.at c.step_read_peeked-ends.ensures.view

pub returns-clause-keyed : goal.returns-clause-keyed
returns-clause-keyed g c = both_known c.args.slot c.args.key c.step_read_peeked-ends.result c.step_read_peeked-ports.result c.rank.result (me c.args.steps.now) (me c.step_read_peeked-ends.new.steps) (me c.step_read_peeked-ports.new.steps) c.requires.at c.step_read_peeked-ends.ensures.view c.step_read_peeked-ports.ensures.view c.rank.ensures
