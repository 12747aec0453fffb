-- `connect`, `accept`, `syn` and `ack`, their refusals in the order in which they are tested. Sources: connect(2),
-- accept(2) and their errors; inet_stream_connect of net/ipv4/af_inet.c; __inet_hash_connect and
-- __inet_check_established of net/ipv4/inet_hashtables.c, tcp_twsk_unique of net/ipv4/tcp_ipv4.c; tcp_conn_request of
-- net/ipv4/tcp_input.c, tcp_check_req of net/ipv4/tcp_minisocks.c and inet_csk_complete_hashdance of
-- net/ipv4/inet_connection_sock.c. Our own: `accept` and `syn` name the listener and both ends themselves, and a
-- request has a label; it takes a slot, and goes when `ack`, `close` or `drop` says so; which ends EINVAL refuses; a
-- socket without a port needs a source named; which owners may share a port that `connect` chooses; which TIME_WAIT
-- gives way to a connection.
--
-- To be read from a command's name upwards: `connect`, `accept`, `syn` and `ack` are given the socket that their
-- label names. `connect_socket` and `ack_socket` part its states, each in one place; `accept` and `syn` ask
-- `is_no_accept`, which is true of any but a listener. What they call stands above them,
-- and tests one refusal after the other.
use Rattle.std.specs.Prelude.{ℕ, Bool, true, ◌&&◌, not, Option, None, Some, if◌then◌else◌}
use Rattle.sock_card.specs.declared.owner.Owner.{Owner}
use Rattle.sock_card.specs.declared.owner.State.{State}
use Rattle.sock_card.specs.declared.owner.State.TheVariants as states
use Rattle.flat_list.specs.declared.header.First.TheVariants as firsts
use Rattle.flat_list.specs.declared.command.End.{End}
use Rattle.flat_list.specs.declared.command.Reply.TheVariants as replies
use Rattle.flat_list.specs.declared.socket.Socket.{Socket}
use Rattle.flat_list.specs.Flat.{Flat}
use Rattle.flat_list.specs.Outcome.{Outcome, unchanged, changed, added, has_slot, no_slot, Found, search_port}
use Rattle.flat_list.specs.Owned.{connected_to, connected_at, child_owner, request_owner, heir_owner, source_of, is_no_end, is_no_accept, is_no_ack}
use Rattle.flat_list.specs.Sections.{moment_of}
use Rattle.flat_list.specs.Sockets.{has_twin, is_claimed, is_taken, open_in, without, without_waiting}

-- the socket, connected from that source to that end
abbrev pub connected_socket : Socket → ℕ → End → Socket
connected_socket s source to = record s { owner = connected_to s.owner source to }

-- a socket's own end
abbrev pub end_of : Socket → End
end_of s = record { addr = s.owner.addr; port = s.owner.port }

-- the list without the TIME_WAITs of the owner's four-tuple
abbrev pub replacing : Flat → Owner → Flat
replacing flat a = record flat { sockets = without_waiting a flat.sockets }

-- the connected socket takes the place of the one that it was, and of a TIME_WAIT of its four-tuple
abbrev pub connect_as : Flat → Socket → Outcome
connect_as flat new =
    if not (has_slot flat) then no_slot flat else changed (replacing flat new.owner) new (replies.End (end_of new))

-- the socket can't have its four-tuple at the moment of section n
abbrev pub is_taken_in : Flat → ℕ → Socket → Bool
is_taken_in flat n s =
    is_taken flat.header.twreuse (moment_of flat.header n flat.sections) s.owner flat.sockets

-- from the bound port and that source, if there is one
abbrev pub connect_from : Flat → ℕ → Socket → End → Option ℕ → Outcome
connect_from flat n s to None = unchanged flat replies.Einval
connect_from flat n s to (Some source) =
    let new = connected_socket s source to in
    if is_taken_in flat n new then unchanged flat replies.Eaddrnotavail else connect_as flat new

-- `connect` of a Bound socket
abbrev pub connect_bound : Flat → ℕ → Socket → Option ℕ → End → Outcome
connect_bound flat n s from to =
    if is_no_end to then unchanged flat replies.Einval
    else connect_from flat n s to (source_of s.owner.addr from)

-- the socket, connected from that source and a port that was found, to that end
abbrev pub connected_by_search : Socket → ℕ → End → ℕ → Socket
connected_by_search s source to port = record s { owner = connected_at s.owner source port to }

-- a port whose owners in the socket's namespace all had it chosen by `connect`,
-- and with which the socket can have its four-tuple
abbrev pub suits_connect : Flat → ℕ → Socket → ℕ → End → ℕ → Bool
suits_connect flat n s source to port =
    not (is_claimed port s.owner.net flat.sockets) && not (is_taken_in flat n (connected_by_search s source to port))

-- from the port that was found, if there is one
abbrev pub connect_found : Found → Socket → ℕ → End → Option ℕ → Outcome
connect_found found s source to None = unchanged found.flat replies.Eaddrnotavail
connect_found found s source to (Some port) = connect_as found.flat (connected_by_search s source to port)

-- from the first port that suits, even distances before odd ones
abbrev pub connect_search : Flat → ℕ → Socket → End → Option ℕ → Outcome
connect_search flat n s to None = unchanged flat replies.Einval
connect_search flat n s to (Some source) =
    let found = search_port flat n firsts.Even (suits_connect flat n s source to) in
    connect_found found s source to found.port

-- `connect` of an Unbound socket, which may have an address to be its source
abbrev pub connect_unbound : Flat → ℕ → Socket → Option ℕ → End → Outcome
connect_unbound flat n s from to =
    if is_no_end to then unchanged flat replies.Einval else connect_search flat n s to (source_of s.owner.addr from)

-- `connect` of a socket in that state, in the section of that number
abbrev pub connect_socket : Flat → ℕ → Socket → State → Option ℕ → End → Outcome
connect_socket flat n s states.Bound from to = connect_bound flat n s from to
connect_socket flat n s states.Unbound from to = connect_unbound flat n s from to
connect_socket flat n s states.Request from to = unchanged flat replies.Einval
connect_socket flat n s _ from to = unchanged flat replies.Eisconn

abbrev pub connect : Flat → ℕ → Option Socket → Option ℕ → End → Outcome
connect flat n None from to = unchanged flat replies.Ebadf
connect flat n (Some s) from to = connect_socket flat n s s.owner.state from to

-- the socket of that name which a listener accepts; commands of a script give no marks
abbrev pub child_of : Socket → ℕ → End → End → Socket
child_of l name from at = record { owner = child_owner l.owner name 0 from at; stamp = 0; named = true }

-- the request of that name for a handshake with a listener
abbrev pub request_of : Socket → ℕ → End → End → Socket
request_of l name from at = record { owner = request_owner l.owner name 0 from at; stamp = 0; named = true }

-- the newcomer comes beside its listener, and in the place of a TIME_WAIT of its four-tuple; no conflict of owners is
-- looked for
abbrev pub accept_as : Flat → Socket → Outcome
accept_as flat new =
    if has_twin new.owner flat.sockets then unchanged flat replies.Eaddrnotavail
    else if not (has_slot flat) then no_slot flat
    else added (replacing flat new.owner) new replies.Ok

-- `accept` under that name, once the child's label is given: after a refusal the label stays given, and names nothing
abbrev pub accept : Flat → ℕ → Option Socket → End → End → Outcome
accept flat name None from at = unchanged flat replies.Ebadf
accept flat name (Some l) from at =
    if is_no_accept l.owner from at then unchanged flat replies.Einval
    else accept_as flat (child_of l name from at)

-- `syn` under that name, once the request's label is given
abbrev pub syn : Flat → ℕ → Option Socket → End → End → Outcome
syn flat name None from at = unchanged flat replies.Ebadf
syn flat name (Some l) from at =
    if is_no_accept l.owner from at then unchanged flat replies.Einval
    else accept_as flat (request_of l name from at)

-- the socket of that name which a request's listener accepts when its handshake is over
abbrev pub heir_of : Socket → ℕ → Socket → Socket
heir_of l name r = record { owner = heir_owner l.owner name 0 r.owner; stamp = 0; named = true }

-- the list without the request
abbrev pub without_request : Flat → Socket → Flat
without_request flat r = record flat { sockets = without r.owner.name flat.sockets }

-- the child comes in the place of the request, and before that goes it needs a slot of its own
abbrev pub hand_over : Flat → Socket → Socket → Outcome
hand_over flat r child =
    if not (has_slot flat) then no_slot flat else added (without_request flat r) child replies.Ok

-- the listener by which the request came accepts, where it is open still
abbrev pub ack_by : Flat → ℕ → Socket → Option Socket → Outcome
ack_by flat name r None = unchanged flat replies.Einval
ack_by flat name r (Some l) =
    if is_no_ack l.owner r.owner then unchanged flat replies.Einval else hand_over flat r (heir_of l name r)

-- `ack` of a socket in that state, in the section of that number
abbrev pub ack_socket : Flat → ℕ → ℕ → Socket → State → Outcome
ack_socket flat n name r states.Request = ack_by flat name r (open_in n r.owner.origin flat.sockets)
ack_socket flat n name r _ = unchanged flat replies.Einval

-- `ack` under that name, once the child's label is given
abbrev pub ack : Flat → ℕ → ℕ → Option Socket → Outcome
ack flat n name None = unchanged flat replies.Ebadf
ack flat n name (Some r) = ack_socket flat n name r r.owner.state
