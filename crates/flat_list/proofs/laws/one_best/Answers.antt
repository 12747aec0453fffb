use Rattle.flat_list.proofs.OneBest.{one_or_one_group}
use Rattle.flat_list.proofs.laws.one_best.Goals as goal

pub returns : goal.returns
returns c = one_or_one_group
