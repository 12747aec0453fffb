use Rattle.std.proofs.Common.{◌≡◌, ◌++◌, take, drop, map}
use Rattle.flat_list.specs.Groups.{join_group}
use Rattle.flat_list.proofs.group.join_mate.Given as goal

abbrev pub invariant-loop-group : goal.invariant-loop-group
invariant-loop-group l = l.groups ≡ map (join_group l.mate l.name) (take l.group-index l.fn.groups) ++ drop l.group-index l.fn.groups
