-- Worked examples in which several causes of a refusal stand beside each other, or sections do. Our own.
--
-- To be read from `refusals` on: the law `more_rows` of src/laws.rt states each row with its header by `Answer` of
-- Rows, those of three sections together by `AllAnswer`, and last `IsApart`.
use Rattle.std.specs.Prelude.{◌≡◌, ℕ, ◌+◌, List, [], ◌∷◌, ◌++◌, None, Some, map, codes, true}
use Rattle.sock_card.specs.declared.card.Kind.{Kind}
use Rattle.sock_card.specs.declared.card.Kind.TheVariants as kinds
use Rattle.flat_list.specs.declared.header.Header.{Header}
use Rattle.flat_list.specs.declared.command.Command.{Command}
use Rattle.flat_list.specs.declared.command.Command.TheVariants as commands
use Rattle.flat_list.specs.declared.command.End.{End}
use Rattle.flat_list.specs.declared.command.Reply.{Reply}
use Rattle.flat_list.specs.declared.command.Reply.TheVariants as replies
use Rattle.sock_card.specs.Conflict.{bind_key}
use Rattle.flat_list.specs.Groups.{bucket_of}
use Rattle.flat_list.specs.Flat.{Flat}
use Rattle.flat_list.specs.Run.{Issued, after, replies_to}
use Rattle.flat_list.specs.Sections.{name_at}
use Rattle.flat_list.specs.Rows.{Line, says, command_of, reply_of, with_range, any, one, two, nowhere, plain, in_net, look_for, socket, on_device, reusable, sharing, sharing_as, found, found_in_group}

-- a line of a section is issued by it
abbrev pub issued_in : ℕ → Line → Issued
issued_in n line = record { section = n; command = line.command }

-- sections from that number on, one after the other, have their lines' replies
abbrev pub AllAnswer : Flat → ℕ → List (List Line) → Type 0
AllAnswer flat n [] = Unit {0}
AllAnswer flat n (lines ∷ rest) =
    (replies_to flat n (map command_of lines) ≡ map reply_of lines)
    × AllAnswer (after flat (map (issued_in n) lines)) (n + 1) rest

-- a header with eight ports, a seed by which sections draw, and the switch for TIME_WAITs
abbrev pub for_sections : Header
for_sections = record (with_range 40000 40007 None) { seed = 5; twreuse = true }

-- 10.0.0.k at a port
abbrev pub host : ℕ → ℕ → End
host k port = record { addr = 0x0A000000 + k; port = port }

abbrev pub sharing_all : List ℕ → Command
sharing_all label = commands.Socket label (record plain { reuseaddr = true; reuseport = true })

-- what a look answers that finds the socket of that name, kind and ends on a device; a TIME_WAIT has a stamp
abbrev pub found_on : Kind → ℕ → End → End → ℕ → ℕ → Reply
found_on kind name end remote dev stamp =
    replies.Found (Some (record {
      local = end.addr;
      lport = end.port;
      remote = remote.addr;
      rport = remote.port;
      dev = dev;
      net = 0;
      kind = kind;
      name = name;
      extra = stamp;
      mark = 0;
    }))

-- a socket that listens in a group of its own port
abbrev pub grouped : List ℕ → ℕ → List Line
grouped label port =
    says (sharing label) replies.Ok
    ∷ says (commands.Bind label (one port)) (replies.Port port)
    ∷ says (commands.Listen label) (replies.Port port)
    ∷ []

-- the order of refusals, and each cause of EINVAL by itself
abbrev pub refusals : List Line
refusals =
    says (socket (codes "l")) replies.Ok
    ∷ says (commands.Bind (codes "l") (one 80)) (replies.Port 80)
    ∷ says (commands.Listen (codes "l")) (replies.Port 80)
    ∷ says (commands.Connect (codes "l") None (any 80)) replies.Eisconn
    ∷ says (socket (codes "b")) replies.Ok
    ∷ says (commands.Bind (codes "b") (one 90)) (replies.Port 90)
    ∷ says (commands.Connect (codes "b") None (any 80)) replies.Einval
    ∷ says (commands.Connect (codes "b") None (two 0)) replies.Einval
    ∷ says (commands.Connect (codes "b") (Some 0x00000000) (two 80)) replies.Einval
    ∷ says (commands.Connect (codes "b") (Some 0x0A000001) (two 80)) (replies.End (one 90))
    ∷ says (commands.Connect (codes "b") None (two 0)) replies.Eisconn
    ∷ says (commands.Accept (codes "l") (codes "c1") (two 1) (any 80)) replies.Einval
    ∷ says (commands.Accept (codes "l") (codes "c2") (two 1) (host 3 80)) replies.Einval
    ∷ says (commands.Accept (codes "l") (codes "c3") (two 1) (one 81)) replies.Einval
    ∷ says (commands.Accept (codes "l") (codes "c4") (any 1) (one 80)) replies.Einval
    ∷ says (commands.Accept (codes "l") (codes "c5") (two 0) (one 80)) replies.Einval
    ∷ says (commands.Accept (codes "l") (codes "c6") (two 1) (one 80)) replies.Ok
    ∷ says (commands.Accept (codes "l") (codes "c7") (two 1) (one 80)) replies.Eaddrnotavail
    ∷ says (commands.Accept (codes "l") (codes "c8") (two 2) (one 80)) (replies.Enfile 3 0)
    ∷ says (commands.Accept (codes "c6") (codes "c9") (two 2) (one 80)) replies.Einval
    ∷ says (socket (codes "any")) replies.Ok
    ∷ says (commands.Bind (codes "any") (any 91)) (replies.Port 91)
    ∷ says (commands.Connect (codes "any") (Some 0x00000000) (two 80)) replies.Einval
    ∷ says (commands.Connect (codes "any") None (two 80)) replies.Einval
    ∷ says (commands.Connect (codes "any") (Some 0x0A000001) (two 80)) (replies.Enfile 3 0)
    ∷ []

-- EMFILE is reported before ENFILE, EADDRINUSE before both, and EADDRNOTAVAIL of a bound `connect` before ENFILE
abbrev pub full_and_grouped : List Line
full_and_grouped =
    grouped (codes "a") 80
    ++ grouped (codes "b") 81
    ++ grouped (codes "c") 82
    ++ grouped (codes "d") 83
    ++ grouped (codes "e") 84
    ++ grouped (codes "f") 85
    ++ grouped (codes "g") 86
    ++ grouped (codes "h") 87
    ++ says (sharing (codes "i")) replies.Ok
    ∷ says (commands.Bind (codes "i") (one 88)) (replies.Port 88)
    ∷ says (commands.Listen (codes "i")) replies.Emfile
    ∷ says (sharing (codes "j")) replies.Ok
    ∷ says (commands.Bind (codes "j") (one 80)) (replies.Port 80)
    ∷ says (commands.Listen (codes "j")) (replies.Enfile 8 0)
    ∷ says (commands.Drop (codes "h")) replies.Ok
    ∷ says (commands.Listen (codes "i")) (replies.Port 88)
    ∷ says (commands.Listen (codes "j")) (replies.Enfile 8 0)
    ∷ says (commands.Drop (codes "i")) replies.Ok
    ∷ says (reusable (codes "x")) replies.Ok
    ∷ says (commands.Bind (codes "x") (one 70)) (replies.Port 70)
    ∷ says (commands.Connect (codes "x") None (two 80)) (replies.End (one 70))
    ∷ says (reusable (codes "y")) replies.Ok
    ∷ says (commands.Bind (codes "y") (one 70)) (replies.Port 70)
    ∷ says (commands.Connect (codes "y") None (two 80)) replies.Eaddrnotavail
    ∷ says (commands.Connect (codes "y") None (two 81)) (replies.Enfile 8 0)
    ∷ []

-- each section has labels, a moment, TIME_WAITs and a generator of its own; tables are shared
abbrev pub section_one : List Line
section_one =
    says (socket (codes "a")) replies.Ok
    ∷ says (commands.Bind (codes "a") (any 0)) (replies.Port 40001)
    ∷ says (on_device (codes "l") 1) replies.Ok
    ∷ says (commands.Bind (codes "l") (one 80)) (replies.Port 80)
    ∷ says (commands.Listen (codes "l")) (replies.Port 80)
    ∷ says (commands.Accept (codes "l") (codes "c") (two 1000) (one 80)) replies.Ok
    ∷ says (look_for (two 1000) (one 80) None) (replies.Found None)
    ∷ says (look_for (two 1000) (one 80) (Some 1)) (found_on kinds.Full (name_at 1 2) (one 80) (two 1000) 1 0)
    ∷ says (look_for (two 1000) (one 80) (Some 2)) (replies.Found None)
    ∷ says (commands.At 1) replies.Ok
    ∷ says (commands.At 1) replies.Ok
    ∷ says (commands.Close (codes "c")) replies.TimeWait
    ∷ says (commands.At 60) replies.Ok
    ∷ says commands.Reap (replies.Count 0)
    ∷ []

-- the second has the first one's labels for its own, and sees the first one's TIME_WAIT without reaping it
abbrev pub section_two : List Line
section_two =
    says (commands.Close (codes "a")) replies.Ebadf
    ∷ says (commands.Close (codes "l")) replies.Ebadf
    ∷ says (socket (codes "a")) replies.Ok
    ∷ says (commands.Bind (codes "a") (any 0)) (replies.Port 40003)
    ∷ says (socket (codes "b")) replies.Ok
    ∷ says (commands.Bind (codes "b") (any 0)) (replies.Port 40005)
    ∷ says (commands.At 2) replies.Ok
    ∷ says (socket (codes "k")) replies.Ok
    ∷ says (commands.Bind (codes "k") (one 90)) (replies.Port 90)
    ∷ says (commands.Listen (codes "k")) (replies.Port 90)
    ∷ says (commands.Accept (codes "k") (codes "c") (two 1000) (one 90)) replies.Ok
    ∷ says (commands.Close (codes "c")) replies.TimeWait
    ∷ says (commands.At 62) replies.Ok
    ∷ says commands.Reap (replies.Count 1)
    ∷ says (look_for (two 1000) (one 80) (Some 1)) (found_on kinds.TimeWait (name_at 1 2) (one 80) (two 1000) 1 1)
    ∷ []

-- so does the third, whose searches pass over the others' ports
abbrev pub section_three : List Line
section_three =
    says (commands.At 4294967295) replies.Ok
    ∷ says commands.Reap (replies.Count 0)
    ∷ says (look_for (two 1000) (one 80) (Some 1)) (found_on kinds.TimeWait (name_at 1 2) (one 80) (two 1000) 1 1)
    ∷ says (socket (codes "m")) replies.Ok
    ∷ says (commands.Listen (codes "m")) (replies.Port 40007)
    ∷ []

-- a TIME_WAIT has a stamp, takes a slot, lets a socket of its options in, and always gives way to `accept`
abbrev pub waits : List Line
waits =
    says (commands.At 100) replies.Ok
    ∷ says (sharing (codes "l")) replies.Ok
    ∷ says (commands.Bind (codes "l") (one 80)) (replies.Port 80)
    ∷ says (commands.Listen (codes "l")) (replies.Port 80)
    ∷ says (commands.Accept (codes "l") (codes "c") (two 1000) (one 80)) replies.Ok
    ∷ says (commands.Close (codes "c")) replies.TimeWait
    ∷ says (commands.Accept (codes "l") (codes "d") (two 1001) (one 80)) replies.Ok
    ∷ says (commands.Accept (codes "l") (codes "e") (two 1000) (one 80)) (replies.Enfile 3 0)
    ∷ says (commands.Close (codes "d")) (replies.NoSlot 3 0)
    ∷ says (commands.Accept (codes "l") (codes "f") (two 1001) (one 80)) replies.Ok
    ∷ says (look_for (two 1000) (one 80) None) (found_on kinds.TimeWait (name_at 1 1) (one 80) (two 1000) 0 100)
    ∷ says (look_for (two 1001) (one 80) None) (found kinds.Full (name_at 1 4) (one 80) (two 1001))
    ∷ says (commands.Drop (codes "l")) replies.Ok
    ∷ says (commands.Accept (codes "l") (codes "g") (two 1001) (one 80)) replies.Ebadf
    ∷ says (sharing_as (codes "o") 7) replies.Ok
    ∷ says (commands.Bind (codes "o") (one 80)) replies.Eaddrinuse
    ∷ says (commands.At 159) replies.Ok
    ∷ says commands.Reap (replies.Count 0)
    ∷ says (commands.At 160) replies.Ok
    ∷ says commands.Reap (replies.Count 1)
    ∷ says (commands.Bind (codes "o") (one 80)) replies.Eaddrinuse
    ∷ says (commands.Bind (codes "o") (one 80)) replies.Eaddrinuse
    ∷ []

-- `accept` takes the place of a TIME_WAIT of its four-tuple, also at its very moment
abbrev pub wait_taken : List Line
wait_taken =
    says (sharing (codes "l")) replies.Ok
    ∷ says (commands.Bind (codes "l") (one 80)) (replies.Port 80)
    ∷ says (commands.Listen (codes "l")) (replies.Port 80)
    ∷ says (commands.Accept (codes "l") (codes "c") (two 1000) (one 80)) replies.Ok
    ∷ says (commands.Close (codes "c")) replies.TimeWait
    ∷ says (look_for (two 1000) (one 80) None) (found kinds.TimeWait (name_at 1 1) (one 80) (two 1000))
    ∷ says (commands.Accept (codes "l") (codes "d") (two 1000) (one 80)) replies.Ok
    ∷ says (look_for (two 1000) (one 80) None) (found kinds.Full (name_at 1 2) (one 80) (two 1000))
    ∷ says (commands.At 60) replies.Ok
    ∷ says commands.Reap (replies.Count 0)
    ∷ says (commands.Drop (codes "d")) replies.Ok
    ∷ says (commands.Close (codes "l")) replies.Ok
    ∷ says (sharing_as (codes "p") 7) replies.Ok
    ∷ says (commands.Bind (codes "p") (one 80)) (replies.Port 80)
    ∷ []

-- of two slots a listener has one and a request the other; a request's label serves `ack` alone, until `close` lets
-- its slot and its four-tuple go
abbrev pub requests : List Line
requests =
    says (sharing (codes "l")) replies.Ok
    ∷ says (commands.Bind (codes "l") (one 80)) (replies.Port 80)
    ∷ says (commands.Listen (codes "l")) (replies.Port 80)
    ∷ says (commands.Syn (codes "l") (codes "r") (two 1000) (one 80)) replies.Ok
    ∷ says (commands.Bind (codes "r") (one 81)) replies.Einval
    ∷ says (commands.Listen (codes "r")) replies.Einval
    ∷ says (commands.Connect (codes "r") None (two 81)) replies.Einval
    ∷ says (commands.Accept (codes "r") (codes "c1") (two 1001) (one 80)) replies.Einval
    ∷ says (commands.Syn (codes "r") (codes "c2") (two 1001) (one 80)) replies.Einval
    ∷ says (commands.Ack (codes "l") (codes "c3")) replies.Einval
    ∷ says (commands.Ack (codes "c1") (codes "c4")) replies.Ebadf
    ∷ says (sharing (codes "o")) replies.Ok
    ∷ says (commands.Bind (codes "o") (one 80)) (replies.Port 80)
    ∷ says (commands.Connect (codes "o") None (two 1000)) replies.Eaddrnotavail
    ∷ says (commands.Connect (codes "o") None (two 1001)) (replies.Enfile 2 0)
    ∷ says (commands.Close (codes "r")) replies.Ok
    ∷ says (look_for (two 1000) (one 80) None) (found_in_group (name_at 1 0) (one 80) 0 0)
    ∷ says (commands.Connect (codes "o") None (two 1000)) (replies.End (one 80))
    ∷ []

-- `syn` takes the place of a TIME_WAIT of its four-tuple, whose port is free then; another listener at the port isn't
-- the request's own
abbrev pub wait_requested : List Line
wait_requested =
    says (socket (codes "l")) replies.Ok
    ∷ says (commands.Bind (codes "l") (one 80)) (replies.Port 80)
    ∷ says (commands.Listen (codes "l")) (replies.Port 80)
    ∷ says (commands.Accept (codes "l") (codes "c") (two 1000) (one 80)) replies.Ok
    ∷ says (commands.Close (codes "c")) replies.TimeWait
    ∷ says (commands.Syn (codes "l") (codes "r") (two 1000) (one 80)) replies.Ok
    ∷ says (look_for (two 1000) (one 80) None) (found kinds.Request (name_at 1 2) (one 80) (two 1000))
    ∷ says (commands.Drop (codes "l")) replies.Ok
    ∷ says (socket (codes "p")) replies.Ok
    ∷ says (commands.Bind (codes "p") (one 80)) (replies.Port 80)
    ∷ says (commands.Listen (codes "p")) (replies.Port 80)
    ∷ says (commands.Ack (codes "r") (codes "d")) replies.Einval
    ∷ says (commands.At 60) replies.Ok
    ∷ says commands.Reap (replies.Count 0)
    ∷ []

-- a socket that shares its port by `reuseport` is let in by another user's TIME_WAIT
abbrev pub wait_shared : List Line
wait_shared =
    says (sharing_as (codes "l") 1) replies.Ok
    ∷ says (commands.Bind (codes "l") (one 80)) (replies.Port 80)
    ∷ says (commands.Listen (codes "l")) (replies.Port 80)
    ∷ says (commands.Accept (codes "l") (codes "c") (two 1000) (one 80)) replies.Ok
    ∷ says (commands.Drop (codes "l")) replies.Ok
    ∷ says (sharing_as (codes "o") 2) replies.Ok
    ∷ says (commands.Bind (codes "o") (one 80)) replies.Eaddrinuse
    ∷ says (commands.Close (codes "c")) replies.TimeWait
    ∷ says (commands.Bind (codes "o") (one 80)) (replies.Port 80)
    ∷ says (commands.Listen (codes "o")) (replies.Port 80)
    ∷ says (look_for (two 1000) (one 80) None) (found kinds.TimeWait (name_at 1 1) (one 80) (two 1000))
    ∷ says (look_for (two 1001) (one 80) None) (found_in_group (name_at 1 2) (one 80) 0 0)
    ∷ []

-- a search heeds no option, looks at the address that is named, and takes its offset modulo the range's size
abbrev pub searches : List Line
searches =
    says (sharing_all (codes "a")) replies.Ok
    ∷ says (commands.Bind (codes "a") (one 0)) (replies.Port 40001)
    ∷ says (sharing_all (codes "b")) replies.Ok
    ∷ says (commands.Bind (codes "b") (two 0)) (replies.Port 40001)
    ∷ says (sharing_all (codes "c")) replies.Ok
    ∷ says (commands.Bind (codes "c") (one 0)) (replies.Port 40000)
    ∷ says (sharing_all (codes "d")) replies.Ok
    ∷ says (commands.Bind (codes "d") (one 0)) replies.Eaddrinuse
    ∷ says (on_device (codes "e") 3) replies.Ok
    ∷ says (commands.Bind (codes "e") (two 0)) (replies.Port 40000)
    ∷ says (socket (codes "f")) replies.Ok
    ∷ says (commands.Listen (codes "f")) replies.Eaddrinuse
    ∷ says (look_for (host 9 1) (any 40001) None) (replies.Found None)
    ∷ says (socket (codes "w")) replies.Ok
    ∷ says (commands.Bind (codes "w") (any 80)) (replies.Port 80)
    ∷ says (commands.Listen (codes "w")) (replies.Port 80)
    ∷ says (look_for (host 9 1) (any 80) None) (found kinds.Listen (name_at 1 6) (any 80) nowhere)
    ∷ says (on_device (codes "x") 4) replies.Ok
    ∷ says (commands.Bind (codes "x") (any 81)) (replies.Port 81)
    ∷ says (commands.Listen (codes "x")) (replies.Port 81)
    ∷ says (look_for (host 9 1) (any 81) (Some 4)) (found_on kinds.Listen (name_at 1 7) (any 81) nowhere 4 0)
    ∷ says (look_for (host 9 1) (host 7 81) (Some 4)) (found_on kinds.Listen (name_at 1 7) (any 81) nowhere 4 0)
    ∷ says (commands.Accept (codes "w") (codes "c2") (host 9 1) (any 80)) replies.Einval
    ∷ says (commands.Accept (codes "w") (codes "d2") (host 9 1) (host 7 80)) replies.Ok
    ∷ []

-- a TIME_WAIT keeps the mark that `connect` chose its port
abbrev pub kept_mark : List Line
kept_mark =
    says (socket (codes "a")) replies.Ok
    ∷ says (commands.Connect (codes "a") (Some 0x0A000001) (two 80)) (replies.End (one 40000))
    ∷ says (commands.Close (codes "a")) replies.TimeWait
    ∷ says (socket (codes "b")) replies.Ok
    ∷ says (commands.Connect (codes "b") (Some 0x0A000001) (two 81)) (replies.End (one 40000))
    ∷ says (socket (codes "c")) replies.Ok
    ∷ says (commands.Connect (codes "c") (Some 0x0A000001) (two 80)) (replies.End (one 40001))
    ∷ says (socket (codes "d")) replies.Ok
    ∷ says (commands.Bind (codes "d") (host 9 40000)) (replies.Port 40000)
    ∷ says (commands.Connect (codes "d") None (two 80)) (replies.End (host 9 40000))
    ∷ says (socket (codes "e")) replies.Ok
    ∷ says (commands.Connect (codes "e") (Some 0x0A000005) (two 80)) (replies.End (host 5 40001))
    ∷ []

-- a device of 0 and an address of 0.0.0.0 stand for any on either side; a child has its listener's device
abbrev pub devices : List Line
devices =
    says (socket (codes "a")) replies.Ok
    ∷ says (commands.Bind (codes "a") (one 80)) (replies.Port 80)
    ∷ says (on_device (codes "b") 1) replies.Ok
    ∷ says (commands.Bind (codes "b") (one 80)) replies.Eaddrinuse
    ∷ says (on_device (codes "c") 1) replies.Ok
    ∷ says (commands.Bind (codes "c") (one 81)) (replies.Port 81)
    ∷ says (socket (codes "d")) replies.Ok
    ∷ says (commands.Bind (codes "d") (one 81)) replies.Eaddrinuse
    ∷ says (socket (codes "e")) replies.Ok
    ∷ says (commands.Bind (codes "e") (any 82)) (replies.Port 82)
    ∷ says (socket (codes "f")) replies.Ok
    ∷ says (commands.Bind (codes "f") (one 82)) replies.Eaddrinuse
    ∷ says (socket (codes "g")) replies.Ok
    ∷ says (commands.Bind (codes "g") (one 83)) (replies.Port 83)
    ∷ says (socket (codes "h")) replies.Ok
    ∷ says (commands.Bind (codes "h") (any 83)) replies.Eaddrinuse
    ∷ says (reusable (codes "i")) replies.Ok
    ∷ says (commands.Bind (codes "i") (one 84)) (replies.Port 84)
    ∷ says (socket (codes "j")) replies.Ok
    ∷ says (commands.Bind (codes "j") (one 84)) replies.Eaddrinuse
    ∷ says (reusable (codes "k")) replies.Ok
    ∷ says (commands.Bind (codes "k") (one 84)) (replies.Port 84)
    ∷ []

-- a packet that comes in in a namespace
abbrev pub look_in : ℕ → End → End → Command
look_in net from to = commands.Look (record { from = from; to = to; dev = None; net = Some net })

-- what a look answers that finds the socket of that name, kind and ends in a namespace
abbrev pub found_in : ℕ → Kind → ℕ → End → End → Reply
found_in net kind name end remote =
    replies.Found (Some (record {
      local = end.addr;
      lport = end.port;
      remote = remote.addr;
      rport = remote.port;
      dev = 0;
      net = net;
      kind = kind;
      name = name;
      extra = 0;
      mark = 0;
    }))

-- sockets meet, and packets find them, in one namespace alone; an accepted socket and a TIME_WAIT are in that of the
-- listener
abbrev pub namespaces : List Line
namespaces =
    says (socket (codes "a")) replies.Ok
    ∷ says (in_net (codes "b") 1) replies.Ok
    ∷ says (commands.Bind (codes "a") (one 80)) (replies.Port 80)
    ∷ says (commands.Bind (codes "b") (one 80)) (replies.Port 80)
    ∷ says (commands.Listen (codes "a")) (replies.Port 80)
    ∷ says (commands.Listen (codes "b")) (replies.Port 80)
    ∷ says (look_for (two 5) (one 80) None) (found kinds.Listen (name_at 1 0) (one 80) nowhere)
    ∷ says (look_in 1 (two 5) (one 80)) (found_in 1 kinds.Listen (name_at 1 1) (one 80) nowhere)
    ∷ says (look_in 2 (two 5) (one 80)) (replies.Found None)
    ∷ says (socket (codes "c")) replies.Ok
    ∷ says (in_net (codes "d") 1) replies.Ok
    ∷ says (commands.Bind (codes "c") (one 90)) (replies.Port 90)
    ∷ says (commands.Bind (codes "d") (one 90)) (replies.Port 90)
    ∷ says (commands.Connect (codes "c") None (two 80)) (replies.End (one 90))
    ∷ says (commands.Connect (codes "d") None (two 80)) (replies.End (one 90))
    ∷ says (commands.Accept (codes "b") (codes "e") (two 7) (one 80)) replies.Ok
    ∷ says (look_in 1 (two 7) (one 80)) (found_in 1 kinds.Full (name_at 1 4) (one 80) (two 7))
    ∷ says (look_for (two 7) (one 80) None) (found kinds.Listen (name_at 1 0) (one 80) nowhere)
    ∷ says (commands.Close (codes "e")) replies.TimeWait
    ∷ says (look_in 1 (two 7) (one 80)) (found_in 1 kinds.TimeWait (name_at 1 4) (one 80) (two 7))
    ∷ []

-- `connect` passes over the port of a bound socket in its own namespace alone
abbrev pub searches_apart : List Line
searches_apart =
    says (socket (codes "a")) replies.Ok
    ∷ says (commands.Bind (codes "a") (one 40000)) (replies.Port 40000)
    ∷ says (socket (codes "b")) replies.Ok
    ∷ says (commands.Connect (codes "b") (Some 0x0A000001) (two 80)) (replies.End (one 40001))
    ∷ says (in_net (codes "c") 1) replies.Ok
    ∷ says (commands.Connect (codes "c") (Some 0x0A000001) (two 80)) (replies.End (one 40000))
    ∷ []

-- of sixteen bind buckets, those of port 80 in two namespaces
abbrev pub IsApart : Type 0
IsApart = (bucket_of (bind_key 80 0) 16 ≡ 0) × (bucket_of (bind_key 80 1) 16 ≡ 1)
