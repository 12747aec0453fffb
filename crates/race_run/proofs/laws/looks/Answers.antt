use Rattle.race_run.proofs.Looking.{looks_too}
use Rattle.race_run.proofs.laws.looks.Goals as goal

pub returns : goal.returns
returns c script capture part tooks looked passes v x values replies clock e all told few = looks_too script capture part tooks looked passes v x values replies clock e told all few
