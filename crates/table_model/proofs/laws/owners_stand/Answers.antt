use Rattle.table_model.proofs.laws.owners_stand.Goals as goal
use Rattle.table_model.proofs.parts.Standing.{owners_stand}
use Rattle.table_model.proofs.parts.Fresh.{unbound_fresh}

pub returns : goal.returns
returns c = record { stand = owners_stand; fresh = unbound_fresh }
