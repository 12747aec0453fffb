use Rattle.shared_calls.proofs.Numbers as proofs
use Rattle.shared_calls.proofs.laws.numbers_are_names.Goals as goal

pub returns : goal.returns
returns c = proofs.numbers_are_names
