use Rattle.table_model.proofs.others.All as others
use Rattle.table_model.proofs.laws.others_stay.Goals as goal

pub returns : goal.returns
returns c = record { stay = others.others_stay }
