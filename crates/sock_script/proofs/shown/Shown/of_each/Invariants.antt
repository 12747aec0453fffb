use Rattle.std.proofs.Common.{◌≡◌, map, take}
use Rattle.sock_script.specs.Shown.{shown}
use Rattle.sock_script.proofs.shown.Shown.of_each.Given as goal

abbrev pub invariant-loop-reply : goal.invariant-loop-reply
invariant-loop-reply l = l.each.items ≡ map shown (take l.reply-index l.replies)
