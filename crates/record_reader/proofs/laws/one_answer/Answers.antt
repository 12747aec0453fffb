use Rattle.record_reader.proofs.Reading.{one_record}
use Rattle.record_reader.proofs.OneAnswer.{excludes_records, one_first, one_verdict}
use Rattle.record_reader.proofs.SomeAnswer.{some_record, some_verdict}
use Rattle.record_reader.proofs.laws.one_answer.Goals as goal

pub returns-clause-apart : goal.returns-clause-apart
returns-clause-apart c = excludes_records

pub returns-clause-first : goal.returns-clause-first
returns-clause-first c = one_first

pub returns-clause-one : goal.returns-clause-one
returns-clause-one c = one_record

pub returns-clause-verdict : goal.returns-clause-verdict
returns-clause-verdict c = one_verdict

pub returns-clause-record : goal.returns-clause-record
returns-clause-record c = some_record

pub returns-clause-some : goal.returns-clause-some
returns-clause-some c = some_verdict
