use Rattle.race_laws.proofs.audits.Whole.{lawful_is_yes, lawful_is_record, lawful_passes, written_passes}
use Rattle.race_laws.proofs.audit_laws.lawful_races.Goals as goal

pub returns-clause-yes : goal.returns-clause-yes
returns-clause-yes c = lawful_is_yes

pub returns-clause-record : goal.returns-clause-record
returns-clause-record c = lawful_is_record

pub returns-clause-passes : goal.returns-clause-passes
returns-clause-passes c = lawful_passes

pub returns-clause-written : goal.returns-clause-written
returns-clause-written c = written_passes
