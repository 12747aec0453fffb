-- What a caller in C gets of a call: numbers, those of errno(3) as Linux has them on x86-64 and arm64.
use Rattle.std.specs.Prelude.{ℕ, Bool, true, false}
use Rattle.flat_list.specs.declared.command.End.{End}
use Rattle.flat_list.specs.declared.command.Reply.{Reply}
use Rattle.flat_list.specs.declared.command.Reply.TheVariants as replies
use Rattle.flat_calls.specs.declared.outcome.Outcome.{Outcome}
use Rattle.flat_calls.specs.declared.outcome.Outcome.TheVariants as outcomes

abbrev pub errno_of_reply : Reply → ℕ
errno_of_reply replies.Ebadf = 9
errno_of_reply replies.Einval = 22
errno_of_reply (replies.Enfile owned held) = 23
errno_of_reply replies.Emfile = 24
errno_of_reply replies.Eaddrinuse = 98
errno_of_reply replies.Eaddrnotavail = 99
errno_of_reply replies.Eisconn = 106
errno_of_reply replies.Ok = 0
errno_of_reply (replies.Port port) = 0
errno_of_reply (replies.End end) = 0
errno_of_reply replies.TimeWait = 0
errno_of_reply (replies.NoSlot owned held) = 0
errno_of_reply (replies.Count count) = 0
errno_of_reply (replies.Found card) = 0
errno_of_reply replies.Skip = 0
errno_of_reply replies.Short = 0

-- EBADF where there are no tables, EAGAIN where another is there, ENOMEM, EINVAL of a worker that isn't, EOVERFLOW
-- where no call is left, ENOBUFS where no slot was looked for
abbrev pub errno_of : Outcome → ℕ
errno_of (outcomes.Replied reply) = errno_of_reply reply
errno_of outcomes.NoTables = 9
errno_of outcomes.Busy = 11
errno_of outcomes.NoMemory = 12
errno_of outcomes.NoWorker = 22
errno_of outcomes.NoNumber = 75
errno_of outcomes.FullLately = 105

-- the end that the socket has from then on, as far as the reply gives it
abbrev pub end_of : Outcome → End
end_of (outcomes.Replied (replies.End end)) = end
end_of (outcomes.Replied (replies.Port port)) = record { addr = 0; port = port }
end_of _ = record { addr = 0; port = 0 }

abbrev pub leaves_time_wait : Outcome → Bool
leaves_time_wait (outcomes.Replied replies.TimeWait) = true
leaves_time_wait _ = false

abbrev pub count_of : Outcome → ℕ
count_of (outcomes.Replied (replies.Count count)) = count
count_of _ = 0
