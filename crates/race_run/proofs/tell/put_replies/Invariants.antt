use Rattle.std.proofs.Common.{◌≡◌, ◌++◌, take}
use Rattle.race_run.proofs.tell.put_replies.Given as goal

abbrev pub invariant-loop-reply : goal.invariant-loop-reply
invariant-loop-reply l = l.replies.items ≡ l.fn.replies.items ++ take l.reply-index l.more
