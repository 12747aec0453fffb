use Rattle.std.proofs.Common.{◌≡◌, length, map, take}
use Rattle.sock_ops.specs.Groups.{shown}
use Rattle.sock_ops.proofs.group_lists.shown_of.Given as goal

abbrev pub invariant-loop-member : goal.invariant-loop-member
invariant-loop-member l =
    record {
      words : l.words.items ≡ map shown (take l.member-index l.members);
      count : length l.words.items ≡ l.member-index;
    }
