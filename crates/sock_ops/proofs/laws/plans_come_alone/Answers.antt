use Rattle.table_model.specs.Operations.{Closed, Did}
use Rattle.sock_ops.proofs.Goes.{come_alone}
use Rattle.sock_ops.proofs.laws.plans_come_alone.Goals as goal

pub returns-clause-dids : goal.returns-clause-dids
returns-clause-dids c = come_alone {R = Did}

pub returns-clause-closes : goal.returns-clause-closes
returns-clause-closes c = come_alone {R = Closed}
