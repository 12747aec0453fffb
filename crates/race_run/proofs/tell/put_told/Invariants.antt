use Rattle.std.proofs.Common.{◌≡◌, take}
use Rattle.race_run.specs.Shares.{put_all}
use Rattle.race_run.proofs.tell.put_told.Given as goal

abbrev pub invariant-loop-look : goal.invariant-loop-look
invariant-loop-look l = l.looked ≡ put_all (take l.look-index l.told) l.fn.looked
