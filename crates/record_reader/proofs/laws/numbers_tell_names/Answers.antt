use Rattle.record_reader.proofs.NamesTold.{numbers_tell}
use Rattle.record_reader.proofs.laws.numbers_tell_names.Goals as goal

pub returns : goal.returns
returns c = numbers_tell
