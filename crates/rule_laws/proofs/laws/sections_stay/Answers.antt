use Rattle.rule_laws.proofs.Own.{commands_leave, refusals_leave, moments_are_set}
use Rattle.rule_laws.proofs.laws.sections_stay.Goals as goal

pub returns-clause-each : goal.returns-clause-each
returns-clause-each c = commands_leave

pub returns-clause-refused : goal.returns-clause-refused
returns-clause-refused c = refusals_leave

pub returns-clause-moments : goal.returns-clause-moments
returns-clause-moments c = moments_are_set
