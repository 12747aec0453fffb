use Rattle.std.proofs.Common.{◌≡◌, take}
use Rattle.std.specs.List.{flat_map}
use Rattle.race_run.specs.Finished.{replies_in}
use Rattle.race_run.proofs.tell.all_replies.Given as goal

abbrev pub invariant-loop-outcome : goal.invariant-loop-outcome
invariant-loop-outcome l = l.replies.items ≡ flat_map replies_in (take l.outcome-index l.outcomes)
