use Rattle.established.proofs.Standing.{one_stands}
use Rattle.established.proofs.laws.handovers.Goals as goal

pub returns : goal.returns
returns c = one_stands
