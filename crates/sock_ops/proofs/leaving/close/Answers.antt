use Rattle.std.proofs.Common.{IfErr, sym, subst}
use Rattle.sock_ops.specs.Closes.{close_answer}
use Rattle.sock_ops.specs.Goes.{NotBusy}
use Rattle.sock_ops.proofs.CloseGoes.{close_patient}
use Rattle.sock_ops.proofs.leaving.close.Goals as goal

pub returns-clause-patient : goal.returns-clause-patient
returns-clause-patient g c = λ endless.
    subst (λ r. IfErr r (λ refusal. NotBusy refusal.1)) (sym c.close_answer.ensures) (close_patient c.args.socket c.close_as-closed.result (c.close_as-closed.ensures.patient endless))
