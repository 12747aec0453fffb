use Rattle.race_run.proofs.Looked.{looks_none, looks_more, looks_past, names_bucket}
use Rattle.race_run.proofs.Searching.{went}
use Rattle.race_run.proofs.laws.lookers.Goals as goal

pub returns-clause-none : goal.returns-clause-none
returns-clause-none c = looks_none

pub returns-clause-more : goal.returns-clause-more
returns-clause-more c = looks_more

pub returns-clause-past : goal.returns-clause-past
returns-clause-past c = looks_past

pub returns-clause-buckets : goal.returns-clause-buckets
returns-clause-buckets c = names_bucket

pub returns-clause-passes : goal.returns-clause-passes
returns-clause-passes c slots groups layout packet passes m p p' end from whole n h = went layout packet passes m slots groups p p' end from whole n h
