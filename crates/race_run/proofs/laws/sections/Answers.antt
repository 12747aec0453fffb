use Rattle.race_run.proofs.Leaving.{all_made}
use Rattle.race_run.proofs.Sectioned.{begins, one_more}
use Rattle.race_run.proofs.laws.sections.Goals as goal

pub returns-clause-made : goal.returns-clause-made
returns-clause-made c = all_made

pub returns-clause-begins : goal.returns-clause-begins
returns-clause-begins c = begins

pub returns-clause-more : goal.returns-clause-more
returns-clause-more c = one_more
