use Rattle.std.proofs.Common.{◌≡◌, take, replicate}
use Rattle.std.specs.List.{flat_map}
use Rattle.race_record.specs.declared.record.Looked.TheVariants as looks
use Rattle.race_run.specs.Finished.{told_in}
use Rattle.race_run.specs.Shares.{put_all}
use Rattle.race_run.proofs.tell.all_told.Given as goal

abbrev pub invariant-loop-outcome : goal.invariant-loop-outcome
invariant-loop-outcome l = l.looked.items ≡ put_all (flat_map told_in (take l.outcome-index l.outcomes)) (replicate l.count looks.Skip)
