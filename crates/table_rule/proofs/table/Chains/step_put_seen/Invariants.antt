use Rattle.table_rule.specs.LookCalls.{place_of}
use Rattle.table_rule.proofs.table.Chains.step_put_seen.Given as goal

abbrev pub ghosts-put_seen_as : goal.ghosts-put_seen_as
ghosts-put_seen_as a = record { slot = place_of a.slot a.steps.now.seat.me.0.read.kept }
