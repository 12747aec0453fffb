use Rattle.sock_script.proofs.HeadersFit.{scripts_fit}
use Rattle.sock_script.proofs.law.headers_fit.Goals as goal

pub returns : goal.returns
returns c = scripts_fit
