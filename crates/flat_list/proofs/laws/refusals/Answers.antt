use Rattle.flat_list.proofs.Refusals.{refusal_keeps}
use Rattle.flat_list.proofs.laws.refusals.Goals as goal

pub returns : goal.returns
returns c = refusal_keeps
