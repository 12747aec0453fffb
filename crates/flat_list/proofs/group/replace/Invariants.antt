use Rattle.std.proofs.Common.{◌≡◌, ◌++◌, take, drop, map}
use Rattle.flat_list.specs.Groups.{renamed}
use Rattle.flat_list.proofs.group.replace.Given as goal

abbrev pub invariant-loop-member : goal.invariant-loop-member
invariant-loop-member l = l.members ≡ map (renamed l.old l.new) (take l.member-index l.fn.members) ++ drop l.member-index l.fn.members
