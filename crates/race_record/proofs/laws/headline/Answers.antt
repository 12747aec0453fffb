use Rattle.race_record.proofs.Drawn.{numbers_tell}
use Rattle.race_record.proofs.Says.{lawful_says}
use Rattle.race_record.proofs.laws.headline.Goals as goal

pub returns-clause-says : goal.returns-clause-says
returns-clause-says c = lawful_says

pub returns-clause-numbers : goal.returns-clause-numbers
returns-clause-numbers c = numbers_tell
