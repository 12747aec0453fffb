-- How commands are counted one after the other. Our own; no public contract cites this file.
use Rattle.std.specs.Prelude.{ℕ, ◌+◌, if◌then◌else◌, bytes_eq, List, [], ◌∷◌, codes}
use Rattle.flat_list.specs.declared.command.Command.{Command}
use Rattle.sock_script.specs.declared.counts.Counts.{Counts}
use Rattle.sock_script.specs.Output.{is_dump}
use Rattle.sock_script.specs.Counts.{Answered, is_look, begins_with_ok}

-- the counts after one command more, whose reply has that text
abbrev pub one_more : Counts → Command → List ℕ → Counts
one_more counts command reply =
    if is_look command
    then (if bytes_eq reply (codes "none")
    then record counts { none = counts.none + 1 }
    else record counts { found = counts.found + 1 })
    else (if is_dump command
    then counts
    else (if begins_with_ok reply
    then record counts { commands = counts.commands + 1; ok = counts.ok + 1 }
    else record counts { commands = counts.commands + 1; refused = counts.refused + 1 }))

-- the counts after some commands more
abbrev pub with_answered : Counts → List Answered → Counts
with_answered counts [] = counts
with_answered counts (a ∷ rest) = with_answered (one_more counts a.command a.reply) rest

-- all that was counted, together
abbrev pub weight : Counts → ℕ
weight counts = counts.commands + counts.ok + counts.refused + counts.found + counts.none
