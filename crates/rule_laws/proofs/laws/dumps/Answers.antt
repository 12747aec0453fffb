use Rattle.rule_laws.proofs.Dumps.{dumps_list_each}
use Rattle.rule_laws.proofs.laws.dumps.Goals as goal

pub returns : goal.returns
returns c = dumps_list_each
