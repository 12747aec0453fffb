use Rattle.race_run.proofs.Looking.{searches_explained}
use Rattle.race_run.proofs.laws.searches.Goals as goal

pub returns : goal.returns
returns c = searches_explained
