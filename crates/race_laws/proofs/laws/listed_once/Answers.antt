use Rattle.race_laws.proofs.Names.{listed_once}
use Rattle.race_laws.proofs.laws.listed_once.Goals as goal

pub returns : goal.returns
returns c = record { names = listed_once }
