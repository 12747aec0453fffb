use Rattle.std.proofs.Common.{arith}
use Rattle.flat_list.specs.Groups.{leave_group}
use Rattle.flat_list.proofs.Written.{map_over_read}
use Rattle.flat_list.proofs.group.leave_each.Goals as goal

pub loop-group-preserved : goal.loop-group-preserved
loop-group-preserved c =
    map_over_read (leave_group c.args.name) _ _ _ _ _ (omega arith) (omega arith) c.loop-group.invariant c.leave.ensures
