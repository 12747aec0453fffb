use Rattle.std.proofs.Common.{◌≡◌, map, take}
use Rattle.race_run.specs.Finished.{as_known}
use Rattle.race_run.proofs.tell.know_changes.Given as goal

abbrev pub invariant-loop-change : goal.invariant-loop-change
invariant-loop-change l = map as_known (take l.change-index l.changes) ≡ take l.change-index l.changes
