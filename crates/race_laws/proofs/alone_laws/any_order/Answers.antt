use Rattle.race_laws.proofs.Turned.{turns_are_flat}
use Rattle.race_laws.proofs.alone_laws.any_order.Goals as goal

pub returns : goal.returns
returns c = turns_are_flat
