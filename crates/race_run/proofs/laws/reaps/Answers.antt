use Rattle.race_run.proofs.Reaped.{reaped}
use Rattle.race_run.proofs.laws.reaps.Goals as goal

pub returns : goal.returns
returns c header scripts part lookers v x values replies clock looks e few = reaped header scripts part lookers v x values replies clock looks e few
