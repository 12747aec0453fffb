-- Worked examples, computed by the plans on new tables: each line is a command of section 1 with its reply, and the
-- flat list has the same reply. Our own.
--
-- To be read from `BothAnswer`, by which `worked_rows` of src/rows.rt states each row.
use Rattle.std.specs.Prelude.{◌≡◌, ℕ, List, [], ◌∷◌, ◌++◌, ◌+◌, Option, None, Some, not, map, filter, codes}
use Rattle.std.specs.List.{range_with_len}
use Rattle.sock_card.specs.Limits.{group_room}
use Rattle.flat_list.specs.declared.header.Header.{Header}
use Rattle.flat_list.specs.declared.command.Command.{Command}
use Rattle.flat_list.specs.declared.command.Command.TheVariants as commands
use Rattle.flat_list.specs.declared.command.Reply.{Reply}
use Rattle.flat_list.specs.declared.command.Reply.TheVariants as replies
use Rattle.flat_list.specs.Rows.{Line, says, command_of, reply_of, Answer, a, b, c, d, e, f, any, one, socket, sharing, sharing_on, connect, accept, closed_and_wanted, with_slots}
use Rattle.table_model.specs.Tables.{Tables, Ended, new_tables, run}
use Rattle.table_model.specs.Own.{Own, new_own}
use Rattle.table_model.specs.Commands.{Replied, plan}
use Rattle.table_model.specs.Means.{is_lookup}

-- a plan's reply, and then those of the commands that follow; none where the tables answer as none do
abbrev pub reply_and : Option (Ended Replied) → (Ended Replied → List Reply) → List Reply
reply_and None next = []
reply_and (Some ended) next = ended.result.reply ∷ next ended

-- the replies to commands of one section by their plans, from these tables on
abbrev pub replies_by_plans : Header → Own → Tables → List Command → List Reply
replies_by_plans header own t [] = []
replies_by_plans header own t (command ∷ rest) =
    reply_and (run t (plan header own command))
    (λ ended. replies_by_plans header ended.result.own ended.tables rest)

-- the lines' commands, carried out by their plans on new tables, have the lines' replies, and so they have in the
-- flat list
abbrev pub BothAnswer : Header → List Line → Type 0
BothAnswer header lines =
    (replies_by_plans header (new_own header 1) (new_tables header.shape header.seed) (map command_of lines)
    ≡ map reply_of lines)
    × Answer header lines

-- the lines but those that only look, of which there is no plan
abbrev pub without_looks : List Line → List Line
without_looks lines = filter (λ line. not (is_lookup line.command)) lines

-- a header with several buckets of each kind
abbrev pub with_buckets : Header
with_buckets = record (with_slots 1024) { shape = record { slots = 1024; bind = 4; hash = 8; listen = 2 } }

-- where `connect` may, it replaces the TIME_WAIT, and none is left to be reaped
abbrev pub wait_is_replaced : List Line
wait_is_replaced =
    closed_and_wanted
    ++ says (connect b 80) (replies.End (one 5000))
    ∷ says (commands.At 59) replies.Ok
    ∷ says commands.Reap (replies.Count 0)
    ∷ says (commands.At 60) replies.Ok
    ∷ says commands.Reap (replies.Count 0)
    ∷ []

-- else it is reaped after its minute
abbrev pub wait_is_reaped : List Line
wait_is_reaped =
    closed_and_wanted
    ++ says (connect b 80) replies.Eaddrnotavail
    ∷ says (commands.At 59) replies.Ok
    ∷ says commands.Reap (replies.Count 0)
    ∷ says (commands.At 60) replies.Ok
    ∷ says commands.Reap (replies.Count 1)
    ∷ says (connect b 80) (replies.End (one 5000))
    ∷ []

-- three listeners of one port, at two addresses and a device, in three groups
abbrev pub three_groups : List Line
three_groups =
    says (sharing a) replies.Ok
    ∷ says (commands.Bind a (any 80)) (replies.Port 80)
    ∷ says (commands.Listen a) (replies.Port 80)
    ∷ says (sharing b) replies.Ok
    ∷ says (commands.Bind b (one 80)) (replies.Port 80)
    ∷ says (commands.Listen b) (replies.Port 80)
    ∷ says (sharing_on c 3) replies.Ok
    ∷ says (commands.Bind c (one 80)) (replies.Port 80)
    ∷ says (commands.Listen c) (replies.Port 80)
    ∷ says (accept b e) replies.Ok
    ∷ says (commands.Drop b) replies.Ok
    ∷ says (accept b f) replies.Ebadf
    ∷ []

-- the only slot, for a listener, then for a connection, which leaves no TIME_WAIT for want of a second one
abbrev pub one_slot_each : List Line
one_slot_each =
    says (socket a) replies.Ok
    ∷ says (commands.Bind a (one 80)) (replies.Port 80)
    ∷ says (commands.Listen a) (replies.Port 80)
    ∷ says (accept a c) (replies.Enfile 1 0)
    ∷ says (commands.Drop a) replies.Ok
    ∷ says (accept a d) replies.Ebadf
    ∷ says (socket b) replies.Ok
    ∷ says (commands.Bind b (one 90)) (replies.Port 90)
    ∷ says (connect b 80) (replies.End (one 90))
    ∷ says (commands.Close b) (replies.NoSlot 1 0)
    ∷ []

-- that many sockets, of labels of one byte, which share 10.0.0.1:80 and listen there
abbrev pub listeners : List ℕ → List Line
listeners [] = []
listeners (byte ∷ rest) =
    says (sharing (byte ∷ [])) replies.Ok
    ∷ says (commands.Bind (byte ∷ []) (one 80)) (replies.Port 80)
    ∷ says (commands.Listen (byte ∷ [])) (replies.Port 80)
    ∷ listeners rest

-- a group has room for so many members; when one leaves there is room again
abbrev pub group_is_full : List Line
group_is_full =
    listeners (range_with_len 128 group_room)
    ++ says (sharing (codes "q")) replies.Ok
    ∷ says (commands.Bind (codes "q") (one 80)) (replies.Port 80)
    ∷ says (commands.Listen (codes "q")) replies.Emfile
    ∷ says (commands.Close (128 ∷ [])) replies.Ok
    ∷ says (commands.Listen (codes "q")) (replies.Port 80)
    ∷ []

-- a listener at each of so many ports that are 4 apart, and so of one bind bucket of four
abbrev pub listeners_at : List ℕ → ℕ → List Line
listeners_at [] port = []
listeners_at (byte ∷ rest) port =
    says (sharing (byte ∷ [])) replies.Ok
    ∷ says (commands.Bind (byte ∷ []) (one port)) (replies.Port port)
    ∷ says (commands.Listen (byte ∷ [])) (replies.Port port)
    ∷ listeners_at rest (port + 4)

-- a bind bucket has places for eight groups; when one goes, its place is free
abbrev pub bucket_is_full : List Line
bucket_is_full =
    listeners_at (codes "abcdefgh") 80
    ++ says (sharing (codes "i")) replies.Ok
    ∷ says (commands.Bind (codes "i") (one 112)) (replies.Port 112)
    ∷ says (commands.Listen (codes "i")) replies.Emfile
    ∷ says (commands.Drop c) replies.Ok
    ∷ says (commands.Listen (codes "i")) (replies.Port 112)
    ∷ []
