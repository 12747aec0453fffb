use Rattle.sock_script.proofs.Inside.{one_script}
use Rattle.sock_script.proofs.law.one_script.Goals as goal

pub returns : goal.returns
returns c = one_script
