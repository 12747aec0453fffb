use Rattle.race_laws.proofs.Names.{hashed_once}
use Rattle.race_laws.proofs.laws.hashed_once.Goals as goal

pub returns : goal.returns
returns c = record { once = hashed_once }
