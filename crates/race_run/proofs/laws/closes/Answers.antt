use Rattle.race_run.proofs.Closing.{closes}
use Rattle.race_run.proofs.Reaped.{reaped}
use Rattle.race_run.proofs.laws.closes.Goals as goal

pub returns : goal.returns
returns c header scripts part lookers v x values replies clock looks e few =
    closes header scripts part lookers v x values replies clock looks e (reaped header scripts part lookers v x values replies clock looks e few)
