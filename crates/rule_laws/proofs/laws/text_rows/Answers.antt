use Rattle.std.proofs.Common.{refl}
use Rattle.rule_laws.proofs.FormsRead.{each_form}
use Rattle.rule_laws.proofs.TextsRead.{unsaid, written, dumped}
use Rattle.rule_laws.proofs.laws.text_rows.Goals as goal

pub returns-clause-unsaid : goal.returns-clause-unsaid
returns-clause-unsaid c = unsaid

pub returns-clause-written : goal.returns-clause-written
returns-clause-written c = written

pub returns-clause-dumped : goal.returns-clause-dumped
returns-clause-dumped c = dumped

pub returns-clause-forms : goal.returns-clause-forms
returns-clause-forms c = each_form

pub returns-clause-far_ports : goal.returns-clause-far_ports
returns-clause-far_ports c = (refl, refl)
