use Rattle.rule_laws.proofs.Best.{finds_the_best}
use Rattle.rule_laws.proofs.laws.best_card.Goals as goal

pub returns : goal.returns
returns c = finds_the_best
