use Rattle.table_rule.proofs.Kepts.{place_nth}
use Rattle.table_rule.proofs.table.Chains.step_put.Goals as goal

pub step_put_nth-requires-clause-nth : goal.step_put_nth-requires-clause-nth
step_put_nth-requires-clause-nth c = place_nth c.args.slot c.args.steps.now.seat.me.0 c.requires.held
