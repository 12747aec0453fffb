-- What a command of a section leaves and replies; its refusals stand in the order in which they are tested. Sources:
-- socket(7), bind(2), listen(2), close(2) and their errors; inet_bind and inet_listen of net/ipv4/af_inet.c;
-- inet_csk_get_port and inet_csk_listen_start of net/ipv4/inet_connection_sock.c; tcp_time_wait of
-- net/ipv4/tcp_minisocks.c. Our own: EBADF where a label names no open socket; slots fixed in number, and ENFILE
-- where none is free; groups limited, and EMFILE where none has room; a search takes a port only where no other owner
-- overlaps, whatever their options; `drop`, `at` and `reap`, and when a TIME_WAIT is left.
--
-- To be read from the end: `step` has a line for each command, and calls what has the command's name, with the socket
-- that its label names. `bind_socket`, `listen_socket` and `close_socket` part the socket's states, each in one
-- place; what a state's line calls stands above it, and tests one refusal after the other.
use Rattle.std.specs.Prelude.{ℕ, Bool, ◌==◌, not, nat_lt, List, Option, None, Some, if◌then◌else◌, true, false, filter, count_by}
use Rattle.sock_card.specs.declared.owner.State.{State}
use Rattle.sock_card.specs.declared.owner.State.TheVariants as states
use Rattle.sock_card.specs.Conflict.{owner_key}
use Rattle.sock_card.specs.Became.{as_listener, as_waiting}
use Rattle.flat_list.specs.declared.header.First.TheVariants as firsts
use Rattle.flat_list.specs.declared.command.Command.{Command}
use Rattle.flat_list.specs.declared.command.Command.TheVariants as commands
use Rattle.flat_list.specs.declared.command.End.{End}
use Rattle.flat_list.specs.declared.command.Reply.TheVariants as replies
use Rattle.flat_list.specs.declared.owned.Options.{Options}
use Rattle.flat_list.specs.declared.socket.Socket.{Socket}
use Rattle.flat_list.specs.Connect.{connect, accept, syn, ack}
use Rattle.flat_list.specs.Flat.{Flat}
use Rattle.flat_list.specs.Look.{look}
use Rattle.flat_list.specs.Outcome.{Outcome, unchanged, changed, added, removed, with_new_label, open_socket, has_slot, no_slot, Found, search_port}
use Rattle.flat_list.specs.Groups.{Group, bucket_of, join}
use Rattle.flat_list.specs.Owned.{new_owner, addressed, bound_at, packet_asked}
use Rattle.flat_list.specs.Sections.{next_name, moment_of, with_moment}
use Rattle.flat_list.specs.Sockets.{is_refused, is_overlapped, mate_of, is_expired}

-- a socket as `socket` makes it; a command of a script gives no mark
abbrev pub new_socket : ℕ → Options → Socket
new_socket name options = record { owner = new_owner name 0 options; stamp = 0; named = true }

-- `socket`: one more socket, and one more label in the section
abbrev pub socket : Flat → ℕ → List ℕ → Options → Outcome
socket flat n label options =
    added (with_new_label flat n label) (new_socket (next_name n flat.sections) options) replies.Ok

-- the socket, bound to that address, its port still to be taken
abbrev pub at_address : Socket → ℕ → Socket
at_address s addr = record s { owner = addressed s.owner addr }

-- the socket, bound to that end
abbrev pub at_end : Socket → End → Socket
at_end s end = record s { owner = bound_at s.owner end.addr end.port }

-- the socket, bound to that address and a port that was found
abbrev pub at_port : Socket → ℕ → ℕ → Socket
at_port s addr port = at_end s (record { addr = addr; port = port })

-- a port at which no other owner overlaps the socket
abbrev pub suits_bind : Flat → Socket → ℕ → ℕ → Bool
suits_bind flat s addr port = not (is_overlapped (at_port s addr port).owner flat.sockets)

-- the first port at that address that suits, odd distances before even ones
abbrev pub search_bind : Flat → ℕ → Socket → ℕ → Found
search_bind flat n s addr = search_port flat n firsts.Odd (suits_bind flat s addr)

-- `bind` of an Unbound socket to a port above 0
abbrev pub bind_given : Flat → Socket → End → Outcome
bind_given flat s end =
    if is_refused (at_end s end).owner flat.sockets then unchanged flat replies.Eaddrinuse
    else changed flat (at_end s end) (replies.Port end.port)

-- at the port that was found, if there is one
abbrev pub bind_found : Found → Socket → ℕ → Option ℕ → Outcome
bind_found found s addr None = unchanged found.flat replies.Eaddrinuse
bind_found found s addr (Some port) = changed found.flat (at_port s addr port) (replies.Port port)

-- `bind` of an Unbound socket to a port that is searched for
abbrev pub bind_search : Flat → ℕ → Socket → ℕ → Outcome
bind_search flat n s addr = let found = search_bind flat n s addr in bind_found found s addr found.port

-- `bind` of an Unbound socket to port 0: one with `noport` keeps the address alone, and has no port yet
abbrev pub bind_any : Flat → ℕ → Socket → ℕ → Outcome
bind_any flat n s addr =
    if s.owner.noport then changed flat (at_address s addr) (replies.Port 0) else bind_search flat n s addr

-- `bind` of an Unbound socket
abbrev pub bind_unbound : Flat → ℕ → Socket → End → Outcome
bind_unbound flat n s end =
    if end.port == 0 then bind_any flat n s end.addr else bind_given flat s end

-- `bind` of a socket in that state, in the section of that number
abbrev pub bind_socket : Flat → ℕ → Socket → State → End → Outcome
bind_socket flat n s states.Unbound end = bind_unbound flat n s end
bind_socket flat n s _ end = unchanged flat replies.Einval

abbrev pub bind : Flat → ℕ → Option Socket → End → Outcome
bind flat n None end = unchanged flat replies.Ebadf
bind flat n (Some s) end = bind_socket flat n s s.owner.state end

-- the socket, listening from then on
abbrev pub listening : Socket → Socket
listening s = record s { owner = as_listener s.owner }

-- the groups once the socket listens beside those sockets, where there are so many bind buckets; none where it shares
-- its end and no group has a place for it
abbrev pub entered : ℕ → Socket → List Socket → List Group → Option (List Group)
entered buckets s sockets groups =
    if s.owner.reuseport then join (bucket_of (owner_key s.owner) buckets) s.owner.name (mate_of s.owner sockets) groups
    else Some groups

abbrev pub groups_with : Flat → Socket → Option (List Group)
groups_with flat s = entered flat.header.shape.bind s flat.sockets flat.groups

-- the socket listens from then on, and the groups are those
abbrev pub listens_in : Flat → Socket → List Group → Outcome
listens_in flat s groups = changed (record flat { groups = groups }) (listening s) (replies.Port s.owner.port)

-- the socket begins to listen, with those groups
abbrev pub listen_as : Flat → Socket → Option (List Group) → Outcome
listen_as flat s None = unchanged flat replies.Emfile
listen_as flat s (Some groups) = if not (has_slot flat) then no_slot flat else listens_in flat s groups

-- `listen` of a socket that has a port
abbrev pub listen_bound : Flat → Socket → Outcome
listen_bound flat s =
    if is_refused s.owner flat.sockets then unchanged flat replies.Eaddrinuse
    else listen_as flat s (groups_with flat s)

-- at the port that was found, if there is one; where `listen` is refused then, the socket has no port again, and its
-- address as before
abbrev pub listen_found : Found → Socket → Option ℕ → Outcome
listen_found found s None = unchanged found.flat replies.Eaddrinuse
listen_found found s (Some port) = listen_bound found.flat (at_port s s.owner.addr port)

-- `listen` of an Unbound socket takes a port at its address: 0.0.0.0 where `bind` has named none
abbrev pub listen_unbound : Flat → ℕ → Socket → Outcome
listen_unbound flat n s = let found = search_bind flat n s s.owner.addr in listen_found found s found.port

-- `listen` of a socket in that state, in the section of that number
abbrev pub listen_socket : Flat → ℕ → Socket → State → Outcome
listen_socket flat n s states.Unbound = listen_unbound flat n s
listen_socket flat n s states.Bound = listen_bound flat s
listen_socket flat n s states.Listening = unchanged flat (replies.Port s.owner.port)
listen_socket flat n s _ = unchanged flat replies.Einval

abbrev pub listen : Flat → ℕ → Option Socket → Outcome
listen flat n None = unchanged flat replies.Ebadf
listen flat n (Some s) = listen_socket flat n s s.owner.state

-- the socket, closed at that moment and waiting; no label names it any more
abbrev pub waiting : Socket → ℕ → Socket
waiting s moment = record { owner = as_waiting s.owner; stamp = moment; named = false }

-- `close` of a full socket leaves a TIME_WAIT, where a slot is free for that beside its own
abbrev pub close_full : Flat → ℕ → Socket → Outcome
close_full flat n s =
    if has_slot flat then changed flat (waiting s (moment_of flat.header n flat.sections)) replies.TimeWait
    else removed flat s (replies.NoSlot flat.header.shape.slots 0)

-- `close` of a socket in that state, in the section of that number
abbrev pub close_socket : Flat → ℕ → Socket → State → Outcome
close_socket flat n s states.Full = close_full flat n s
close_socket flat n s _ = removed flat s replies.Ok

abbrev pub close : Flat → ℕ → Option Socket → Outcome
close flat n None = unchanged flat replies.Ebadf
close flat n (Some s) = close_socket flat n s s.owner.state

-- `at`: the section's moment never goes back
abbrev pub at : Flat → ℕ → ℕ → Outcome
at flat n moment =
    if nat_lt moment (moment_of flat.header n flat.sections) then unchanged flat replies.Einval
    else unchanged (record flat { sections = with_moment flat.header n moment flat.sections }) replies.Ok

-- `reap`: the section's sockets in TIME_WAIT that have lasted their minute are gone
abbrev pub reap : Flat → ℕ → Outcome
reap flat n =
    let is_over = is_expired n (moment_of flat.header n flat.sections) in
    unchanged (record flat { sockets = filter (λ s. not (is_over s)) flat.sockets })
    (replies.Count (count_by is_over flat.sockets))

-- `drop`: the socket is gone at once
abbrev pub drop : Flat → Option Socket → Outcome
drop flat None = unchanged flat replies.Ebadf
drop flat (Some s) = removed flat s replies.Ok

-- the list after a command of the section of that number, and its reply
unfoldable pub step : Flat → ℕ → Command → Outcome
step flat n (commands.Socket label options) = socket flat n label options
step flat n (commands.Bind label end) = bind flat n (open_socket flat n label) end
step flat n (commands.Listen label) = listen flat n (open_socket flat n label)
step flat n (commands.Connect label from to) = connect flat n (open_socket flat n label) from to
step flat n (commands.Accept listener label from at) =
    accept (with_new_label flat n label) (next_name n flat.sections) (open_socket flat n listener) from at
step flat n (commands.Syn listener label from at) =
    syn (with_new_label flat n label) (next_name n flat.sections) (open_socket flat n listener) from at
step flat n (commands.Ack request label) =
    ack (with_new_label flat n label) n (next_name n flat.sections) (open_socket flat n request)
step flat n (commands.Close label) = close flat n (open_socket flat n label)
step flat n (commands.Drop label) = drop flat (open_socket flat n label)
step flat n (commands.At moment) = at flat n moment
step flat n commands.Reap = reap flat n
step flat n (commands.Look query) =
    unchanged flat (replies.Found (look (packet_asked query) flat.header.seed flat.sockets flat.groups))
step flat n (commands.Packets count) = unchanged flat replies.Ok
step flat n commands.Dump = unchanged flat replies.Ok

-- a command that gives a label
abbrev pub gives_label : Command → Bool
gives_label (commands.Socket label options) = true
gives_label (commands.Accept listener label from at) = true
gives_label (commands.Syn listener label from at) = true
gives_label (commands.Ack request label) = true
gives_label _ = false

-- a command by which something is kept that wasn't: a label, a socket, a group, a section's moment
abbrev pub may_grow : Command → Bool
may_grow (commands.Listen label) = true
may_grow (commands.At moment) = true
may_grow command = gives_label command
