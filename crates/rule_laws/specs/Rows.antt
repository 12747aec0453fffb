-- Worked examples, computed by the definitions: each shows a rule that no row of the flat list shows. Each line is a
-- command of section 1 with its reply. Our own.
--
-- The law `rows` of src/laws.rt states each row with its header by `Answer` of flat_list's Rows, and last `IsAdded`.
use Rattle.std.specs.Prelude.{◌≡◌, ℕ, ◌+◌, List, [], ◌∷◌, ◌++◌, None, Some, codes, true}
use Rattle.sock_card.specs.declared.card.Kind.TheVariants as kinds
use Rattle.jhash_words.specs.Places.{tuple_hash, listen_hash}
use Rattle.flat_list.specs.declared.header.Header.{Header}
use Rattle.flat_list.specs.declared.command.Command.TheVariants as commands
use Rattle.flat_list.specs.declared.command.End.{End}
use Rattle.flat_list.specs.declared.command.Reply.{Reply}
use Rattle.flat_list.specs.declared.command.Reply.TheVariants as replies
use Rattle.flat_list.specs.Ports.{none_reserved}
use Rattle.flat_list.specs.Sections.{name_at}
use Rattle.flat_list.specs.Rows.{Line, says, with_slots, with_reserved, any, one, two, plain, look_for, on_device, socket, reusable, late, sharing, sharing_as, connect_from, accept, syn, found, found_in_group, a, b, c, d, q, r}
use Rattle.flat_list.specs.MoreRows.{grouped, look_in, sharing_all, found_on}

-- what a look answers that finds the listener of that name, end, namespace and group
abbrev pub found_beside : ℕ → End → ℕ → ℕ → Reply
found_beside name end net number =
    replies.Found (Some (record {
      local = end.addr;
      lport = end.port;
      remote = 0;
      rport = 0;
      dev = 0;
      net = net;
      kind = kinds.Listen;
      name = name;
      extra = number + 1;
      mark = 0;
    }))

-- listeners of two namespaces are in two groups
abbrev pub groups_apart : List Line
groups_apart =
    says (sharing a) replies.Ok
    ∷ says (commands.Socket b (record plain { net = Some 1; reuseport = true })) replies.Ok
    ∷ says (commands.Bind a (one 80)) (replies.Port 80)
    ∷ says (commands.Bind b (one 80)) (replies.Port 80)
    ∷ says (commands.Listen a) (replies.Port 80)
    ∷ says (commands.Listen b) (replies.Port 80)
    ∷ says (look_for (two 5) (one 80) None) (found_in_group (name_at 1 0) (one 80) 0 0)
    ∷ says (look_in 1 (two 5) (one 80)) (found_beside (name_at 1 1) (one 80) 1 1)
    ∷ []

-- an offset is taken modulo the size of the whole range, whichever ports are reserved
abbrev pub from_two : Header
from_two = record with_reserved { offset = Some 2 }

abbrev pub kept_from_two : List Line
kept_from_two =
    says (socket a) replies.Ok
    ∷ says (commands.Bind a (any 0)) (replies.Port 40002)
    ∷ []

-- `bind` of a bound socket is EINVAL, also where the port is in use
abbrev pub bound_before_in_use : List Line
bound_before_in_use =
    says (socket a) replies.Ok
    ∷ says (commands.Bind a (one 80)) (replies.Port 80)
    ∷ says (socket b) replies.Ok
    ∷ says (commands.Bind b (one 81)) (replies.Port 81)
    ∷ says (commands.Bind b (one 80)) replies.Einval
    ∷ []

-- where all groups of a bind bucket are there, `listen` of a socket that another refuses is EADDRINUSE
abbrev pub in_use_before_full : List Line
in_use_before_full =
    grouped (codes "a") 80
    ++ grouped (codes "b") 81
    ++ grouped (codes "c") 82
    ++ grouped (codes "d") 83
    ++ grouped (codes "e") 84
    ++ grouped (codes "f") 85
    ++ grouped (codes "g") 86
    ++ grouped (codes "h") 87
    ++ says (sharing_all (codes "i")) replies.Ok
    ∷ says (commands.Bind (codes "i") (one 90)) (replies.Port 90)
    ∷ says (reusable (codes "j")) replies.Ok
    ∷ says (commands.Bind (codes "j") (one 90)) (replies.Port 90)
    ∷ says (commands.Listen (codes "j")) (replies.Port 90)
    ∷ says (commands.Listen (codes "i")) replies.Eaddrinuse
    ∷ []

-- a header with one slot and a range of two ports
abbrev pub one_slot_two_ports : Header
one_slot_two_ports =
    record (with_slots 1) { range = record { low = 40000; high = 40001; reserved = none_reserved } }

-- with one slot: a socket that takes its port late keeps its address where a port is found and no slot
abbrev pub late_without_slot : List Line
late_without_slot =
    says (socket a) replies.Ok
    ∷ says (commands.Bind a (one 80)) (replies.Port 80)
    ∷ says (commands.Listen a) (replies.Port 80)
    ∷ says (late b) replies.Ok
    ∷ says (commands.Bind b (two 0)) (replies.Port 0)
    ∷ says (commands.Listen b) (replies.Enfile 1 0)
    ∷ says (commands.Drop a) replies.Ok
    ∷ says (commands.Connect b None (one 80)) (replies.End (two 40000))
    ∷ []

-- a socket that is bound to 0.0.0.0 has the address that `from` names once it is connected
abbrev pub source_is_taken : List Line
source_is_taken =
    says (socket a) replies.Ok
    ∷ says (commands.Bind a (any 91)) (replies.Port 91)
    ∷ says (connect_from a 80) (replies.End (one 91))
    ∷ says (look_for (two 80) (one 91) None) (found kinds.Full (name_at 1 0) (one 91) (two 80))
    ∷ []

-- `accept` at another port than the listener's is EINVAL, also where the four-tuple is taken
abbrev pub listener_before_taken : List Line
listener_before_taken =
    says (socket a) replies.Ok
    ∷ says (commands.Bind a (one 80)) (replies.Port 80)
    ∷ says (commands.Listen a) (replies.Port 80)
    ∷ says (socket b) replies.Ok
    ∷ says (commands.Bind b (one 81)) (replies.Port 81)
    ∷ says (commands.Listen b) (replies.Port 81)
    ∷ says (commands.Accept a c (two 1000) (one 80)) replies.Ok
    ∷ says (commands.Accept b d (two 1000) (one 80)) replies.Einval
    ∷ []

-- in a range of two ports: `connect` passes over the port of an accepted socket, as over that of its listener
abbrev pub child_keeps_port : List Line
child_keeps_port =
    says (socket a) replies.Ok
    ∷ says (commands.Bind a (one 40000)) (replies.Port 40000)
    ∷ says (commands.Listen a) (replies.Port 40000)
    ∷ says (commands.Accept a b (two 1000) (one 40000)) replies.Ok
    ∷ says (commands.Close a) replies.Ok
    ∷ says (socket c) replies.Ok
    ∷ says (connect_from c 80) (replies.End (one 40001))
    ∷ []

-- two devices keep listeners of one end apart, and not two full sockets of one four-tuple
abbrev pub one_tuple_on_two_devices : List Line
one_tuple_on_two_devices =
    says (on_device a 1) replies.Ok
    ∷ says (commands.Bind a (one 80)) (replies.Port 80)
    ∷ says (commands.Listen a) (replies.Port 80)
    ∷ says (on_device b 2) replies.Ok
    ∷ says (commands.Bind b (one 80)) (replies.Port 80)
    ∷ says (commands.Listen b) (replies.Port 80)
    ∷ says (commands.Accept a c (two 1000) (one 80)) replies.Ok
    ∷ says (commands.Accept b d (two 1000) (one 80)) replies.Eaddrnotavail
    ∷ []

-- with three slots: `syn` and `ack` judge their listener before the four-tuple, and that before the slots
abbrev pub listener_before_slots : List Line
listener_before_slots =
    says (socket a) replies.Ok
    ∷ says (commands.Bind a (one 80)) (replies.Port 80)
    ∷ says (commands.Listen a) (replies.Port 80)
    ∷ says (socket b) replies.Ok
    ∷ says (commands.Bind b (one 81)) (replies.Port 81)
    ∷ says (commands.Listen b) (replies.Port 81)
    ∷ says (syn a r) replies.Ok
    ∷ says (commands.Syn b (codes "r1") (two 1000) (one 80)) replies.Einval
    ∷ says (syn r (codes "r2")) replies.Einval
    ∷ says (syn a (codes "r3")) replies.Eaddrnotavail
    ∷ says (commands.Syn a (codes "r4") (two 1001) (one 80)) (replies.Enfile 3 0)
    ∷ says (commands.Ack (codes "r4") (codes "c1")) replies.Ebadf
    ∷ says (commands.Drop a) replies.Ok
    ∷ says (commands.Syn b (codes "r5") (two 1001) (one 81)) replies.Ok
    ∷ says (commands.Ack r (codes "c2")) replies.Einval
    ∷ says (commands.Ack (codes "r5") (codes "c3")) (replies.Enfile 3 0)
    ∷ []

-- with three slots: a request needs a slot beside that of the TIME_WAIT whose place it takes
abbrev pub wait_keeps_slot : List Line
wait_keeps_slot =
    says (socket a) replies.Ok
    ∷ says (commands.Bind a (one 80)) (replies.Port 80)
    ∷ says (commands.Listen a) (replies.Port 80)
    ∷ says (accept a b) replies.Ok
    ∷ says (commands.Close b) replies.TimeWait
    ∷ says (commands.Syn a q (two 1001) (one 80)) replies.Ok
    ∷ says (syn a r) (replies.Enfile 3 0)
    ∷ says (commands.Close q) replies.Ok
    ∷ says (syn a c) replies.Ok
    ∷ []

-- a request is at the address that `syn` names, on its listener's device and in no group; the socket that comes in
-- its place is of the listener's user and options, and isn't handed over again
abbrev pub handshake_on_device : List Line
handshake_on_device =
    says (commands.Socket a (record plain { uid = Some 7; dev = Some 4; reuseport = true })) replies.Ok
    ∷ says (commands.Bind a (any 80)) (replies.Port 80)
    ∷ says (commands.Listen a) (replies.Port 80)
    ∷ says (syn a r) replies.Ok
    ∷ says (look_for (two 1000) (one 80) None) (replies.Found None)
    ∷ says (look_for (two 1000) (one 80) (Some 4)) (found_on kinds.Request (name_at 1 1) (one 80) (two 1000) 4 0)
    ∷ says (commands.Ack r c) replies.Ok
    ∷ says (commands.Ack c q) replies.Einval
    ∷ says (look_for (two 1000) (one 80) (Some 4)) (found_on kinds.Full (name_at 1 2) (one 80) (two 1000) 4 0)
    ∷ says (commands.Drop a) replies.Ok
    ∷ says (sharing_as b 8) replies.Ok
    ∷ says (commands.Bind b (one 80)) replies.Eaddrinuse
    ∷ says (sharing_as d 7) replies.Ok
    ∷ says (commands.Bind d (one 80)) (replies.Port 80)
    ∷ []

-- in a range of two ports: a listener's handshakes are over one by one; `connect` passes over the port of a socket
-- that came by one, and not over that of a request
abbrev pub handshake_keeps_port : List Line
handshake_keeps_port =
    says (socket a) replies.Ok
    ∷ says (commands.Bind a (one 40000)) (replies.Port 40000)
    ∷ says (commands.Listen a) (replies.Port 40000)
    ∷ says (commands.Syn a r (two 1000) (one 40000)) replies.Ok
    ∷ says (commands.Syn a q (two 1001) (one 40000)) replies.Ok
    ∷ says (commands.Ack r b) replies.Ok
    ∷ says (look_for (two 1001) (one 40000) None) (found kinds.Request (name_at 1 2) (one 40000) (two 1001))
    ∷ says (commands.Close a) replies.Ok
    ∷ says (socket c) replies.Ok
    ∷ says (connect_from c 80) (replies.End (one 40001))
    ∷ says (commands.Drop c) replies.Ok
    ∷ says (commands.Drop b) replies.Ok
    ∷ says (socket d) replies.Ok
    ∷ says (connect_from d 80) (replies.End (one 40000))
    ∷ []

-- in a range of six ports, offset 0: a search goes upwards
abbrev pub upwards : List Line
upwards =
    says (socket a) replies.Ok
    ∷ says (commands.Bind a (any 0)) (replies.Port 40001)
    ∷ says (socket b) replies.Ok
    ∷ says (commands.Bind b (any 0)) (replies.Port 40003)
    ∷ []

-- a namespace's number is added to the seed, and not mixed into it in another way
abbrev pub IsAdded : Type 0
IsAdded =
    (tuple_hash 0x0A000001 80 0x0A000002 1000 1 1 ≡ 0x43ECAA35) × (listen_hash 0x0A000001 80 1 1 ≡ 0xBE40AC85)
