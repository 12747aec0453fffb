-- Worked examples, computed by the definitions: each line is a command of section 1 with its reply. Our own.
--
-- To be read from `Answer`, by which the law `rows` of src/laws.rt states each row with its header. The rows begin at
-- `until_one_listens`; most of what they are made of stands above it.
use Rattle.std.specs.Prelude.{◌≡◌, ℕ, ◌+◌, List, [], ◌∷◌, ◌++◌, Option, None, Some, map, codes, Bool, false, true, replicate}
use Rattle.std.specs.List.{flat_map, range_with_len}
use Rattle.sock_card.specs.declared.card.Kind.{Kind}
use Rattle.sock_card.specs.declared.card.Kind.TheVariants as kinds
use Rattle.sock_card.specs.Limits.{group_room}
use Rattle.flat_list.specs.declared.header.Header.{Header}
use Rattle.flat_list.specs.declared.command.Command.{Command}
use Rattle.flat_list.specs.declared.command.Command.TheVariants as commands
use Rattle.flat_list.specs.declared.command.End.{End}
use Rattle.flat_list.specs.declared.owned.Options.{Options}
use Rattle.flat_list.specs.declared.command.Reply.{Reply}
use Rattle.flat_list.specs.declared.command.Reply.TheVariants as replies
use Rattle.flat_list.specs.Flat.{new_flat}
use Rattle.flat_list.specs.Ports.{none_reserved}
use Rattle.flat_list.specs.Run.{replies_to}
use Rattle.flat_list.specs.Sections.{name_at}

pub record Line : Type 0 where
  pub command : Command
  pub reply : Reply

abbrev pub says : Command → Reply → Line
says command reply = record { command = command; reply = reply }

abbrev pub command_of : Line → Command
command_of line = line.command

abbrev pub reply_of : Line → Reply
reply_of line = line.reply

-- the lines' commands, one after the other, have the lines' replies
abbrev pub Answer : Header → List Line → Type 0
Answer header lines = replies_to (new_flat header) 1 (map command_of lines) ≡ map reply_of lines

-- a header with that many slots
abbrev pub with_slots : ℕ → Header
with_slots slots =
    record {
      shape = record { slots = slots; bind = 1; hash = 1; listen = 1 };
      range = record { low = 32768; high = 60999; reserved = none_reserved };
      seed = 0;
      offset = None;
      twreuse = false;
    }

-- a header with that range, and that offset if there is one
abbrev pub with_range : ℕ → ℕ → Option ℕ → Header
with_range low high offset =
    record (with_slots 1024) { range = record { low = low; high = high; reserved = none_reserved }; offset = offset }

-- a header with the range 40000 to 40003, of which 40001 and 40003 are reserved, and offset 0
abbrev pub with_reserved : Header
with_reserved =
    let ports = 40001 ∷ 40003 ∷ replicate 62 0 in
    record (with_slots 1024) {
      range = record { low = 40000; high = 40003; reserved = record { ports = ports; count = 2 } };
      offset = Some 0;
    }

-- a header with that seed, for four ports
abbrev pub with_seed : ℕ → Header
with_seed seed = record (with_range 40000 40003 None) { seed = seed }

-- a header with that switch for TIME_WAITs
abbrev pub with_reuse : Bool → Header
with_reuse twreuse = record (with_slots 1024) { twreuse = twreuse }

-- a header whose seed makes the hashes of packets to 10.0.0.1:80 from 10.0.0.2 at ports 1000, 1001 and 1002
-- 0xE1DC2E8E, 0xFC3A01B5 and 0x0CFF64B4
abbrev pub with_known_hashes : Header
with_known_hashes = record (with_slots 1024) { seed = 0x21524105 }

-- labels
abbrev pub a : List ℕ
a = codes "a"

abbrev pub b : List ℕ
b = codes "b"

abbrev pub c : List ℕ
c = codes "c"

abbrev pub d : List ℕ
d = codes "d"

abbrev pub e : List ℕ
e = codes "e"

abbrev pub f : List ℕ
f = codes "f"

abbrev pub q : List ℕ
q = codes "q"

abbrev pub r : List ℕ
r = codes "r"

-- 0.0.0.0, 10.0.0.1 and 10.0.0.2 at a port
abbrev pub any : ℕ → End
any port = record { addr = 0; port = port }

abbrev pub one : ℕ → End
one port = record { addr = 0x0A000001; port = port }

abbrev pub two : ℕ → End
two port = record { addr = 0x0A000002; port = port }

abbrev pub plain : Options
plain = record { net = None; uid = None; dev = None; reuseaddr = false; reuseport = false; noport = false }

abbrev pub socket : List ℕ → Command
socket label = commands.Socket label plain

abbrev pub in_net : List ℕ → ℕ → Command
in_net label net = commands.Socket label (record plain { net = Some net })

abbrev pub on_device : List ℕ → ℕ → Command
on_device label dev = commands.Socket label (record plain { dev = Some dev })

abbrev pub reusable : List ℕ → Command
reusable label = commands.Socket label (record plain { reuseaddr = true })

abbrev pub late : List ℕ → Command
late label = commands.Socket label (record plain { noport = true })

abbrev pub sharing : List ℕ → Command
sharing label = commands.Socket label (record plain { reuseport = true })

abbrev pub sharing_as : List ℕ → ℕ → Command
sharing_as label uid = commands.Socket label (record plain { uid = Some uid; reuseport = true })

abbrev pub sharing_on : List ℕ → ℕ → Command
sharing_on label dev = commands.Socket label (record plain { dev = Some dev; reuseport = true })

abbrev pub connect : List ℕ → ℕ → Command
connect label port = commands.Connect label None (two port)

-- from 10.0.0.1, at a port that is searched for
abbrev pub connect_from : List ℕ → ℕ → Command
connect_from label port = commands.Connect label (Some 0x0A000001) (two port)

-- from 10.0.0.2:1000 at 10.0.0.1:80
abbrev pub accept : List ℕ → List ℕ → Command
accept listener label = commands.Accept listener label (two 1000) (one 80)

-- what a look answers that finds the socket of that name, kind and ends
abbrev pub found : Kind → ℕ → End → End → Reply
found kind name end remote =
    replies.Found (Some (record {
      local = end.addr;
      lport = end.port;
      remote = remote.addr;
      rport = remote.port;
      dev = 0;
      net = 0;
      kind = kind;
      name = name;
      extra = 0;
      mark = 0;
    }))

abbrev pub nowhere : End
nowhere = record { addr = 0; port = 0 }

-- what a look answers that finds the listener of that name, end, device and group
abbrev pub found_in_group : ℕ → End → ℕ → ℕ → Reply
found_in_group name end dev number =
    replies.Found (Some (record {
      local = end.addr;
      lport = end.port;
      remote = 0;
      rport = 0;
      dev = dev;
      net = 0;
      kind = kinds.Listen;
      name = name;
      extra = number + 1;
      mark = 0;
    }))

-- a packet from an end to another, that comes in by a device, or by none
abbrev pub look_for : End → End → Option ℕ → Command
look_for from to dev = commands.Look (record { from = from; to = to; dev = dev; net = None })

-- a packet from 10.0.0.2 at that port to 10.0.0.1:80
abbrev pub look_from : ℕ → Command
look_from port = look_for (two port) (one 80) None

abbrev pub look_on : ℕ → Command
look_on dev = look_for (two 1001) (one 80) (Some dev)

-- a packet to another address than 10.0.0.1
abbrev pub look_aside : ℕ → Command
look_aside port = look_for (two 1001) (record { addr = 0x0A000009; port = port }) None

-- sockets with `reuseaddr` share an end until one of them listens
abbrev pub until_one_listens : List Line
until_one_listens =
    says (reusable a) replies.Ok
    ∷ says (reusable b) replies.Ok
    ∷ says (reusable c) replies.Ok
    ∷ says (commands.Bind a (one 80)) (replies.Port 80)
    ∷ says (commands.Bind b (one 80)) (replies.Port 80)
    ∷ says (commands.Listen a) (replies.Port 80)
    ∷ says (commands.Listen b) replies.Eaddrinuse
    ∷ says (commands.Bind c (one 80)) replies.Eaddrinuse
    ∷ says (commands.Listen a) (replies.Port 80)
    ∷ []

-- two devices keep sockets apart; a socket without one meets both
abbrev pub beside_by_device : List Line
beside_by_device =
    says (on_device a 1) replies.Ok
    ∷ says (on_device b 2) replies.Ok
    ∷ says (socket c) replies.Ok
    ∷ says (commands.Bind a (one 80)) (replies.Port 80)
    ∷ says (commands.Bind b (one 80)) (replies.Port 80)
    ∷ says (commands.Bind c (one 80)) replies.Eaddrinuse
    ∷ []

-- of two listeners one gets the only slot
abbrev pub one_slot : List Line
one_slot =
    says (socket a) replies.Ok
    ∷ says (socket b) replies.Ok
    ∷ says (commands.Bind a (one 80)) (replies.Port 80)
    ∷ says (commands.Bind b (one 81)) (replies.Port 81)
    ∷ says (commands.Listen a) (replies.Port 80)
    ∷ says (commands.Listen b) (replies.Enfile 1 0)
    ∷ says (look_for (two 5) (one 80) None) (found kinds.Listen (name_at 1 0) (one 80) nowhere)
    ∷ []

-- a packet finds the accepted socket before its listener; a second one of its four-tuple is refused
abbrev pub accepted_goes_first : List Line
accepted_goes_first =
    says (socket a) replies.Ok
    ∷ says (commands.Bind a (one 80)) (replies.Port 80)
    ∷ says (commands.Listen a) (replies.Port 80)
    ∷ says (accept a c) replies.Ok
    ∷ says (accept a d) replies.Eaddrnotavail
    ∷ says (look_for (two 1000) (one 80) None) (found kinds.Full (name_at 1 1) (one 80) (two 1000))
    ∷ says (commands.Drop d) replies.Ebadf
    ∷ says (commands.Drop c) replies.Ok
    ∷ says (look_for (two 1000) (one 80) None) (found kinds.Listen (name_at 1 0) (one 80) nowhere)
    ∷ []

-- a handshake from 10.0.0.2:1000 with a listener at 10.0.0.1:80
abbrev pub syn : List ℕ → List ℕ → Command
syn listener label = commands.Syn listener label (two 1000) (one 80)

abbrev pub begun : List Line
begun =
    says (socket a) replies.Ok
    ∷ says (commands.Bind a (one 80)) (replies.Port 80)
    ∷ says (commands.Listen a) (replies.Port 80)
    ∷ says (syn a r) replies.Ok
    ∷ []

-- a packet finds the request, which has its four-tuple for itself, and after `ack` the child in its place
abbrev pub handed_over : List Line
handed_over =
    begun
    ++ says (look_for (two 1000) (one 80) None) (found kinds.Request (name_at 1 1) (one 80) (two 1000))
    ∷ says (syn a q) replies.Eaddrnotavail
    ∷ says (accept a b) replies.Eaddrnotavail
    ∷ says (commands.Ack r c) replies.Ok
    ∷ says (look_for (two 1000) (one 80) None) (found kinds.Full (name_at 1 4) (one 80) (two 1000))
    ∷ says (commands.Ack r d) replies.Ebadf
    ∷ []

-- a child needs a slot beside its request's, and its listener; a request that is refused its `ack` stands
abbrev pub not_handed_over : List Line
not_handed_over =
    begun
    ++ says (commands.Ack r c) (replies.Enfile 2 0)
    ∷ says (look_for (two 1000) (one 80) None) (found kinds.Request (name_at 1 1) (one 80) (two 1000))
    ∷ says (commands.Drop a) replies.Ok
    ∷ says (commands.Ack r d) replies.Einval
    ∷ []

-- of two sockets at one end one gets the four-tuple
abbrev pub one_four_tuple : List Line
one_four_tuple =
    says (reusable a) replies.Ok
    ∷ says (reusable b) replies.Ok
    ∷ says (commands.Bind a (one 90)) (replies.Port 90)
    ∷ says (commands.Bind b (one 90)) (replies.Port 90)
    ∷ says (connect a 80) (replies.End (one 90))
    ∷ says (connect b 80) replies.Eaddrnotavail
    ∷ []

-- the only slot goes from a listener to a connected socket
abbrev pub slot_is_freed : List Line
slot_is_freed =
    says (socket a) replies.Ok
    ∷ says (commands.Bind a (one 80)) (replies.Port 80)
    ∷ says (commands.Listen a) (replies.Port 80)
    ∷ says (accept a c) (replies.Enfile 1 0)
    ∷ says (commands.Drop a) replies.Ok
    ∷ says (accept a d) replies.Ebadf
    ∷ says (socket b) replies.Ok
    ∷ says (commands.Bind b (one 90)) (replies.Port 90)
    ∷ says (connect b 80) (replies.End (one 90))
    ∷ []

-- where the only slot is the socket's own, `close` leaves no TIME_WAIT
abbrev pub closed_without_slot : List Line
closed_without_slot =
    says (socket b) replies.Ok
    ∷ says (commands.Bind b (one 90)) (replies.Port 90)
    ∷ says (connect b 80) (replies.End (one 90))
    ∷ says (commands.Close b) (replies.NoSlot 1 0)
    ∷ says (look_for (two 80) (one 90) None) (replies.Found None)
    ∷ []

-- a closed listener's child keeps the listener's port from others, unless both have `reuseaddr`
abbrev pub child_stays : List Line
child_stays =
    says (socket a) replies.Ok
    ∷ says (commands.Bind a (one 80)) (replies.Port 80)
    ∷ says (commands.Listen a) (replies.Port 80)
    ∷ says (accept a c) replies.Ok
    ∷ says (commands.Close a) replies.Ok
    ∷ says (socket d) replies.Ok
    ∷ says (commands.Bind d (one 80)) replies.Eaddrinuse
    ∷ []

abbrev pub child_lets_in : List Line
child_lets_in =
    says (reusable a) replies.Ok
    ∷ says (commands.Bind a (one 80)) (replies.Port 80)
    ∷ says (commands.Listen a) (replies.Port 80)
    ∷ says (accept a c) replies.Ok
    ∷ says (commands.Close a) replies.Ok
    ∷ says (reusable d) replies.Ok
    ∷ says (commands.Bind d (one 80)) (replies.Port 80)
    ∷ says (commands.Listen d) (replies.Port 80)
    ∷ []

-- sockets of one user share an end by `reuseport`
abbrev pub shared_by_user : List Line
shared_by_user =
    says (sharing_as a 1) replies.Ok
    ∷ says (sharing_as b 2) replies.Ok
    ∷ says (sharing_as c 1) replies.Ok
    ∷ says (commands.Bind a (one 80)) (replies.Port 80)
    ∷ says (commands.Bind b (one 80)) replies.Eaddrinuse
    ∷ says (commands.Bind c (one 80)) (replies.Port 80)
    ∷ []

-- a connection that was closed, and one that wants its four-tuple
abbrev pub closed_and_wanted : List Line
closed_and_wanted =
    says (reusable a) replies.Ok
    ∷ says (commands.Bind a (one 5000)) (replies.Port 5000)
    ∷ says (connect a 80) (replies.End (one 5000))
    ∷ says (commands.Close a) replies.TimeWait
    ∷ says (reusable b) replies.Ok
    ∷ says (commands.Bind b (one 5000)) (replies.Port 5000)
    ∷ says (connect b 80) replies.Eaddrnotavail
    ∷ says (commands.At 1) replies.Ok
    ∷ []

-- once the moment is later than its stamp, the TIME_WAIT gives way where the switch is on,
-- and isn't there to be reaped
abbrev pub reused : List Line
reused =
    closed_and_wanted
    ++ says (connect b 80) (replies.End (one 5000))
    ∷ says (look_for (two 80) (one 5000) None) (found kinds.Full (name_at 1 1) (one 5000) (two 80))
    ∷ says (commands.At 59) replies.Ok
    ∷ says commands.Reap (replies.Count 0)
    ∷ says (commands.At 60) replies.Ok
    ∷ says commands.Reap (replies.Count 0)
    ∷ []

-- else it stays for a minute
abbrev pub waited_for : List Line
waited_for =
    closed_and_wanted
    ++ says (connect b 80) replies.Eaddrnotavail
    ∷ says (look_for (two 80) (one 5000) None) (found kinds.TimeWait (name_at 1 0) (one 5000) (two 80))
    ∷ says (commands.At 59) replies.Ok
    ∷ says commands.Reap (replies.Count 0)
    ∷ says (commands.At 60) replies.Ok
    ∷ says commands.Reap (replies.Count 1)
    ∷ says (connect b 80) (replies.End (one 5000))
    ∷ []

-- listeners at any address, at the packet's, and there on a device; each is alone in its group
abbrev pub by_rank : List Line
by_rank =
    says (sharing a) replies.Ok
    ∷ says (commands.Bind a (any 80)) (replies.Port 80)
    ∷ says (commands.Listen a) (replies.Port 80)
    ∷ says (sharing b) replies.Ok
    ∷ says (commands.Bind b (one 80)) (replies.Port 80)
    ∷ says (commands.Listen b) (replies.Port 80)
    ∷ says (sharing_on c 3) replies.Ok
    ∷ says (commands.Bind c (one 80)) (replies.Port 80)
    ∷ says (commands.Listen c) (replies.Port 80)
    ∷ says (accept b e) replies.Ok
    ∷ says (look_from 1000) (found kinds.Full (name_at 1 3) (one 80) (two 1000))
    ∷ says (look_from 1001) (found_in_group (name_at 1 1) (one 80) 0 1)
    ∷ says (look_on 3) (found_in_group (name_at 1 2) (one 80) 3 2)
    ∷ says (look_on 4) (found_in_group (name_at 1 1) (one 80) 0 1)
    ∷ says (look_aside 80) (found_in_group (name_at 1 0) (any 80) 0 0)
    ∷ says (look_aside 81) (replies.Found None)
    ∷ says (commands.Drop b) replies.Ok
    ∷ says (look_on 4) (found_in_group (name_at 1 0) (any 80) 0 0)
    ∷ []

-- three listeners of one group: the hash chooses among them, and the last takes the place of the one that leaves
abbrev pub chosen_by_hash : List Line
chosen_by_hash =
    says (sharing a) replies.Ok
    ∷ says (commands.Bind a (one 80)) (replies.Port 80)
    ∷ says (commands.Listen a) (replies.Port 80)
    ∷ says (sharing b) replies.Ok
    ∷ says (commands.Bind b (one 80)) (replies.Port 80)
    ∷ says (commands.Listen b) (replies.Port 80)
    ∷ says (sharing c) replies.Ok
    ∷ says (commands.Bind c (one 80)) (replies.Port 80)
    ∷ says (commands.Listen c) (replies.Port 80)
    ∷ says (look_from 1002) (found_in_group (name_at 1 0) (one 80) 0 0)
    ∷ says (look_from 1000) (found_in_group (name_at 1 2) (one 80) 0 0)
    ∷ says (look_from 1001) (found_in_group (name_at 1 2) (one 80) 0 0)
    ∷ says (commands.Drop a) replies.Ok
    ∷ says (look_from 1002) (found_in_group (name_at 1 2) (one 80) 0 0)
    ∷ says (look_from 1000) (found_in_group (name_at 1 1) (one 80) 0 0)
    ∷ []

-- a group has room for sixty-four members
abbrev pub listener : ℕ → Reply → List Line
listener number reply =
    let label : List ℕ = number ∷ [] in
    says (sharing label) replies.Ok
    ∷ says (commands.Bind label (one 80)) (replies.Port 80)
    ∷ says (commands.Listen label) reply
    ∷ []

abbrev pub one_listener_too_many : List Line
one_listener_too_many =
    flat_map (λ number. listener number (replies.Port 80)) (range_with_len 1 group_room)
    ++ listener (group_room + 1) replies.Emfile

-- each state of a socket refuses what doesn't fit it, and a moment never goes back
abbrev pub states_refuse : List Line
states_refuse =
    says (socket a) replies.Ok
    ∷ says (connect a 80) replies.Einval
    ∷ says (commands.Bind a (one 90)) (replies.Port 90)
    ∷ says (commands.Bind a (one 91)) replies.Einval
    ∷ says (commands.Connect a (Some 0x0A000003) (two 80)) replies.Einval
    ∷ says (connect a 80) (replies.End (one 90))
    ∷ says (commands.Listen a) replies.Einval
    ∷ says (connect a 81) replies.Eisconn
    ∷ says (commands.Accept a b (two 81) (one 90)) replies.Einval
    ∷ says (commands.Drop a) replies.Ok
    ∷ says (commands.Drop a) replies.Ebadf
    ∷ says (commands.Close b) replies.Ebadf
    ∷ says (commands.At 5) replies.Ok
    ∷ says (commands.At 4) replies.Einval
    ∷ []

-- in a range of four ports from 40000 on, offset 0: `bind` prefers odd distances,
-- and neither it nor `connect` finds a fifth port
abbrev pub four_ports : List Line
four_ports =
    says (socket a) replies.Ok
    ∷ says (socket b) replies.Ok
    ∷ says (socket c) replies.Ok
    ∷ says (socket d) replies.Ok
    ∷ says (socket e) replies.Ok
    ∷ says (socket f) replies.Ok
    ∷ says (commands.Bind a (any 0)) (replies.Port 40001)
    ∷ says (commands.Bind b (any 0)) (replies.Port 40003)
    ∷ says (commands.Bind c (any 0)) (replies.Port 40000)
    ∷ says (commands.Bind d (any 0)) (replies.Port 40002)
    ∷ says (commands.Bind e (any 0)) replies.Eaddrinuse
    ∷ says (connect_from f 80) replies.Eaddrnotavail
    ∷ []

-- the same from offset 2 on
abbrev pub binds_from_two : List Line
binds_from_two =
    says (socket a) replies.Ok
    ∷ says (socket b) replies.Ok
    ∷ says (socket c) replies.Ok
    ∷ says (socket d) replies.Ok
    ∷ says (commands.Bind a (any 0)) (replies.Port 40003)
    ∷ says (commands.Bind b (any 0)) (replies.Port 40001)
    ∷ says (commands.Bind c (any 0)) (replies.Port 40002)
    ∷ says (commands.Bind d (any 0)) (replies.Port 40000)
    ∷ []

-- and `connect`, which prefers even distances
abbrev pub connects_from_two : List Line
connects_from_two =
    says (socket a) replies.Ok
    ∷ says (socket b) replies.Ok
    ∷ says (socket c) replies.Ok
    ∷ says (socket d) replies.Ok
    ∷ says (connect_from a 80) (replies.End (one 40002))
    ∷ says (connect_from b 80) (replies.End (one 40000))
    ∷ says (connect_from c 80) (replies.End (one 40003))
    ∷ says (connect_from d 80) (replies.End (one 40001))
    ∷ []

-- in a range of two ports: a port that `connect` chose serves each other end once
abbrev pub shared_by_connect : List Line
shared_by_connect =
    says (socket a) replies.Ok
    ∷ says (socket b) replies.Ok
    ∷ says (socket c) replies.Ok
    ∷ says (socket d) replies.Ok
    ∷ says (connect_from a 80) (replies.End (one 40000))
    ∷ says (connect_from b 80) (replies.End (one 40001))
    ∷ says (connect_from c 80) replies.Eaddrnotavail
    ∷ says (connect_from d 81) (replies.End (one 40000))
    ∷ []

-- a listener without a port takes one at each address
abbrev pub listens_anywhere : List Line
listens_anywhere =
    says (socket a) replies.Ok
    ∷ says (commands.Listen a) (replies.Port 40001)
    ∷ says (look_for (two 5) (record { addr = 0x0A000007; port = 40001 }) None)
    (found kinds.Listen (name_at 1 0) (any 40001) nowhere)
    ∷ []

-- in a range of two ports: sockets of one address that take their ports late share one by their other ends, and a
-- listener takes its port at the address to which it is bound
abbrev pub late_ports : List Line
late_ports =
    says (late a) replies.Ok
    ∷ says (late b) replies.Ok
    ∷ says (commands.Bind a (one 0)) (replies.Port 0)
    ∷ says (commands.Bind b (one 0)) (replies.Port 0)
    ∷ says (connect a 80) (replies.End (one 40000))
    ∷ says (connect b 81) (replies.End (one 40000))
    ∷ says (late c) replies.Ok
    ∷ says (commands.Bind c (record { addr = 0x0A000009; port = 0 })) (replies.Port 0)
    ∷ says (commands.Listen c) (replies.Port 40001)
    ∷ says (look_for (two 5) (record { addr = 0x0A000009; port = 40001 }) None)
    (found kinds.Listen (name_at 1 2) (record { addr = 0x0A000009; port = 40001 }) nowhere)
    ∷ says (look_for (two 5) (record { addr = 0x0A000007; port = 40001 }) None) (replies.Found None)
    ∷ []

-- in a range of two ports: a socket that takes its port late is bound again to another address, which is its source
-- and stays after refusals; the port that it is then bound to is its own
abbrev pub late_again : List Line
late_again =
    says (late a) replies.Ok
    ∷ says (connect a 80) replies.Einval
    ∷ says (commands.Bind a (one 0)) (replies.Port 0)
    ∷ says (commands.Bind a (two 0)) (replies.Port 0)
    ∷ says (connect_from a 80) replies.Einval
    ∷ says (socket b) replies.Ok
    ∷ says (commands.Bind b (any 40000)) (replies.Port 40000)
    ∷ says (socket c) replies.Ok
    ∷ says (commands.Bind c (any 40001)) (replies.Port 40001)
    ∷ says (commands.Listen a) replies.Eaddrinuse
    ∷ says (connect a 80) replies.Eaddrnotavail
    ∷ says (commands.Bind a (one 40001)) replies.Eaddrinuse
    ∷ says (commands.Drop b) replies.Ok
    ∷ says (commands.Listen a) (replies.Port 40000)
    ∷ says (look_for (one 5) (two 40000) None) (found kinds.Listen (name_at 1 0) (two 40000) nowhere)
    ∷ says (commands.Bind a (one 0)) replies.Einval
    ∷ []

-- a search passes reserved ports by, and `bind` may name one
abbrev pub kept_ports : List Line
kept_ports =
    says (socket a) replies.Ok
    ∷ says (socket b) replies.Ok
    ∷ says (socket c) replies.Ok
    ∷ says (socket d) replies.Ok
    ∷ says (commands.Bind a (any 0)) (replies.Port 40000)
    ∷ says (commands.Bind b (any 0)) (replies.Port 40002)
    ∷ says (commands.Bind c (any 0)) replies.Eaddrinuse
    ∷ says (commands.Bind d (any 40001)) (replies.Port 40001)
    ∷ []

-- with one slot, a listener and a connection that find a port find no slot, and have no port afterwards
abbrev pub port_without_slot : List Line
port_without_slot =
    says (socket a) replies.Ok
    ∷ says (commands.Bind a (one 80)) (replies.Port 80)
    ∷ says (commands.Listen a) (replies.Port 80)
    ∷ says (socket b) replies.Ok
    ∷ says (commands.Listen b) (replies.Enfile 1 0)
    ∷ says (connect_from b 80) (replies.Enfile 1 0)
    ∷ says (commands.Bind b (one 81)) (replies.Port 81)
    ∷ []

-- in a range of four ports, with words of the section's own generator, which give the offsets 2, 2 and 0: `connect`
-- without a source draws none, and a `listen` that finds no port has drawn its own
abbrev pub words_are_drawn : List Line
words_are_drawn =
    says (socket a) replies.Ok
    ∷ says (socket b) replies.Ok
    ∷ says (socket c) replies.Ok
    ∷ says (socket d) replies.Ok
    ∷ says (socket e) replies.Ok
    ∷ says (commands.Bind a (any 0)) (replies.Port 40003)
    ∷ says (connect e 80) replies.Einval
    ∷ says (commands.Bind b (any 40001)) (replies.Port 40001)
    ∷ says (commands.Bind c (any 40000)) (replies.Port 40000)
    ∷ says (commands.Bind d (any 40002)) (replies.Port 40002)
    ∷ says (commands.Listen e) replies.Eaddrinuse
    ∷ says (commands.Drop a) replies.Ok
    ∷ says (commands.Drop b) replies.Ok
    ∷ says (commands.Bind e (any 0)) (replies.Port 40001)
    ∷ []
