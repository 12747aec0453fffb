use Rattle.table_rule.specs.LookCalls.{place_of}
use Rattle.table_rule.proofs.table.Chains.step_put.Given as goal

abbrev pub ghosts-step_put_nth : goal.ghosts-step_put_nth
ghosts-step_put_nth a = record { slot = place_of a.slot a.steps.now.seat.me.0.read.kept }
