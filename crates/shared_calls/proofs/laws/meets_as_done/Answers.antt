use Rattle.shared_calls.proofs.Order as proofs
use Rattle.shared_calls.proofs.laws.meets_as_done.Goals as goal

pub returns : goal.returns
returns c = proofs.meets_as_done
