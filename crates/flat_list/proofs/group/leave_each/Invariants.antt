use Rattle.std.proofs.Common.{◌≡◌, ◌++◌, take, drop, map}
use Rattle.flat_list.specs.Groups.{leave_group}
use Rattle.flat_list.proofs.group.leave_each.Given as goal

abbrev pub invariant-loop-group : goal.invariant-loop-group
invariant-loop-group l = l.groups ≡ map (leave_group l.name) (take l.group-index l.fn.groups) ++ drop l.group-index l.fn.groups
