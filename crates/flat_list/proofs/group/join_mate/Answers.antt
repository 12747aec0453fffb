use Rattle.std.proofs.Common.{arith}
use Rattle.flat_list.specs.Groups.{join_group, is_full_group}
use Rattle.flat_list.proofs.Written.{map_over_read, none_passes, not_written}
use Rattle.flat_list.proofs.group.join_mate.Goals as goal

pub join-requires : goal.join-requires
join-requires c =
    rw (not_written (join_group c.args.mate c.args.name) c.args.groups.now c.loop-group.groups c.loop-group.group-index c.group-item.result (omega arith) c.loop-group.invariant)
    (none_passes (is_full_group c.args.mate) c.args.groups.now c.loop-group.group-index c.group-item.result (omega arith) c.requires)

pub loop-group-preserved : goal.loop-group-preserved
loop-group-preserved c =
    map_over_read (join_group c.args.mate c.args.name) _ _ _ _ _ (omega arith) (omega arith) c.loop-group.invariant c.join.ensures
