use Rattle.sock_script.proofs.Fronts.{none_outside, one_first}
use Rattle.sock_script.proofs.law.one_bad_line.Goals as goal

pub returns : goal.returns
returns c = record { no_script = none_outside; one = one_first }
