-- The laws of plans: each refines the list's step, and each comes to an end.
use Rattle.flat_list.proofs.Soundness.{stays}
use Rattle.table_model.specs.Means.{PlansRefine, PlansEnd}
use Rattle.table_model.proofs.commands.All.{all_refine, all_end}
use Rattle.table_model.proofs.commands.ListenPlan.{listen_carried}
use Rattle.table_model.proofs.commands.ListenEnds.{listen_ends}

-- each plan replies as the list does, and leaves what it leaves
pub plans_refine : PlansRefine
plans_refine = all_refine (λ n own t flat h few label room. listen_carried n own t flat h few label room) stays

-- each plan comes to an end
pub plans_end : PlansEnd
plans_end = all_end (λ n own t flat h few label. listen_ends n own t flat h few label)
