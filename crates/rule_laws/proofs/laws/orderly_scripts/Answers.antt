use Rattle.rule_laws.proofs.Orderly.{scripts_are_orderly}
use Rattle.rule_laws.proofs.laws.orderly_scripts.Goals as goal

pub returns : goal.returns
returns c = scripts_are_orderly
