use Rattle.flat_list.proofs.Acks.{acks_while_open}
use Rattle.flat_list.proofs.laws.acks.Goals as goal

pub returns : goal.returns
returns c = acks_while_open
