use Rattle.sock_ops.proofs.BindStands as proofs
use Rattle.sock_ops.proofs.laws.bind_stands.Goals as goal

pub returns : goal.returns
returns c = proofs.bind_stands
