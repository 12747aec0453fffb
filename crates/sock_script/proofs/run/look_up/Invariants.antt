use Rattle.std.proofs.Common.{◌≡◌, ◌++◌, map, take}
use Rattle.sock_script.specs.Steps.{item_shown}
use Rattle.sock_script.proofs.run.look_up.Given as goal

abbrev pub invariant-loop-item : goal.invariant-loop-item
invariant-loop-item l = l.replies.items ≡ l.fn.replies.items ++ map (item_shown l.flat) (take l.item-index l.items)
