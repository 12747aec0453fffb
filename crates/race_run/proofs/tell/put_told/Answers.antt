use Rattle.race_run.proofs.Placing.{put_step}
use Rattle.race_run.proofs.tell.put_told.Goals as goal

pub loop-look-preserved : goal.loop-look-preserved
loop-look-preserved c = put_step c.args.told.now c.args.looked.now c.loop-look.looked c.loop-look.look-index _ c.loop-look.invariant c.loop-look-test.true
