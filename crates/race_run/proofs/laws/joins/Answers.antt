use Rattle.race_run.proofs.Joining.{joins_none, joins_more}
use Rattle.race_run.proofs.laws.joins.Goals as goal

pub returns-clause-none : goal.returns-clause-none
returns-clause-none c = joins_none

pub returns-clause-more : goal.returns-clause-more
returns-clause-more c = joins_more
