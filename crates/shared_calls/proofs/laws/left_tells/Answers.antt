use Rattle.shared_calls.proofs.LeftOver as proofs
use Rattle.shared_calls.proofs.laws.left_tells.Goals as goal

pub returns : goal.returns
returns c = proofs.left_tells
