use Rattle.table_model.proofs.commands.Laws as all
use Rattle.table_model.proofs.laws.plans.Goals as goal

pub returns-clause-end : goal.returns-clause-end
returns-clause-end c = all.plans_end

pub returns-clause-refine : goal.returns-clause-refine
returns-clause-refine c = all.plans_refine
