use Rattle.table_rule.proofs.Explains.{always_explained, wholes_explained}
use Rattle.table_rule.proofs.laws.receipts.Goals as goal

pub returns-clause-lookups : goal.returns-clause-lookups
returns-clause-lookups c = λ layout s k n v r rule me there. always_explained layout s rule k n v r me there

pub returns-clause-wholes : goal.returns-clause-wholes
returns-clause-wholes c = λ layout s k n v r rule me there. wholes_explained layout s rule k n v r me there
