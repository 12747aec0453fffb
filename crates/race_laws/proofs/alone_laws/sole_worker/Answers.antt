use Rattle.race_laws.proofs.Sole.{sole_is_flat}
use Rattle.race_laws.proofs.alone_laws.sole_worker.Goals as goal

pub returns : goal.returns
returns c = sole_is_flat
