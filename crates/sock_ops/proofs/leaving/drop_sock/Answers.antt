use Rattle.std.proofs.Common.{IfErr, sym, subst}
use Rattle.sock_ops.specs.Closes.{drop_answer}
use Rattle.sock_ops.specs.Goes.{NotBusy}
use Rattle.sock_ops.proofs.CloseGoes.{drop_patient}
use Rattle.sock_ops.proofs.leaving.drop_sock.Goals as goal

pub returns-clause-patient : goal.returns-clause-patient
returns-clause-patient g c = λ endless.
    subst (λ r. IfErr r (λ refusal. NotBusy refusal.1)) (sym c.drop_answer.ensures) (drop_patient c.args.socket c.leave-left.result (c.leave-left.ensures.patient endless))
