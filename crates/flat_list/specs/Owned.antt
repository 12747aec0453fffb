-- What a command's words, and a socket's own state, make of its owner. Nothing here looks at other sockets, so the
-- flat list, the buckets of a port's owners and the record of a race can all say a command's outcome by these.
-- Sources: inet_csk_get_port, inet_csk_listen_start and inet_csk_clone_lock of net/ipv4/inet_connection_sock.c;
-- tcp_v4_connect of net/ipv4/tcp_ipv4.c; bind(2), listen(2), connect(2), accept(2), ip(7). Which ends `connect` and
-- `accept` refuse is our own rule.
--
-- To be read from the beginning: each is short, and most stand on no other here.
use Rattle.std.specs.Prelude.{ℕ, Bool, true, false, ◌==◌, ◌||◌, not, Option, None, Some, if◌then◌else◌, unwrap_or}
use Rattle.sock_card.specs.declared.owner.Owner.{Owner}
use Rattle.sock_card.specs.declared.owner.State.TheVariants as states
use Rattle.sock_card.specs.declared.card.Card.{Card}
use Rattle.sock_card.specs.declared.card.Kind.{Kind}
use Rattle.sock_card.specs.declared.card.Packet.{Packet}
use Rattle.sock_card.specs.Conflict.{is_listening}
use Rattle.sock_card.specs.Became.{connected, child, as_request}
use Rattle.flat_list.specs.declared.command.End.{End}
use Rattle.flat_list.specs.declared.command.Query.{Query}
use Rattle.flat_list.specs.declared.owned.Options.{Options}

-- as `socket` makes it, of that name and with that mark: without an end, its origin its own name
abbrev pub new_owner : ℕ → ℕ → Options → Owner
new_owner name mark options =
    record {
      name = name;
      origin = name;
      addr = 0;
      port = 0;
      remote = 0;
      rport = 0;
      dev = unwrap_or options.dev 0;
      net = unwrap_or options.net 0;
      uid = unwrap_or options.uid 0;
      mark = mark;
      reuseaddr = options.reuseaddr;
      reuseport = options.reuseport;
      noport = options.noport;
      state = states.Unbound;
      by_connect = false;
    }

-- bound to that address, its port still to be taken
abbrev pub addressed : Owner → ℕ → Owner
addressed a addr = record a { addr = addr; port = 0; state = states.Unbound }

-- bound to that end
abbrev pub bound_at : Owner → ℕ → ℕ → Owner
bound_at a addr port = record a { addr = addr; port = port; state = states.Bound }

-- connected from that source to that end: both its ends stand, and it is full
abbrev pub connected_to : Owner → ℕ → End → Owner
connected_to a source to = connected source to.addr to.port a

-- the same from a port that `connect` chose
abbrev pub connected_at : Owner → ℕ → ℕ → End → Owner
connected_at a source port to = record (connected_to a source to) { port = port; by_connect = true }

-- the socket of that name, with that mark, which a listener accepts from one end at another: full,
-- and all else as the listener has it, its origin too
abbrev pub child_owner : Owner → ℕ → ℕ → End → End → Owner
child_owner l name mark from at = child name mark at.addr from.addr from.port l

-- the request of that name, with that mark, for a handshake with a listener from one end at another: as the child
-- would be, but that it isn't full
abbrev pub request_owner : Owner → ℕ → ℕ → End → End → Owner
request_owner l name mark from at = as_request (child_owner l name mark from at)

-- the source of `connect` for a socket bound to addr, or to none where that is 0.0.0.0: that address, or where it is
-- 0.0.0.0 the one named; none where none is named, or another than the bound one
abbrev pub source_of : ℕ → Option ℕ → Option ℕ
source_of addr None = if addr == 0 then None else Some addr
source_of addr (Some from) =
    if from == 0 then None else if (addr == 0) || (addr == from) then Some from else None

-- an end that nothing can be connected to
abbrev pub is_no_end : End → Bool
is_no_end end = (end.addr == 0) || (end.port == 0)

-- this is no listener, or none that could accept from one end at the other
abbrev pub is_no_accept : Owner → End → End → Bool
is_no_accept l from at =
    not (is_listening l.state) || not (at.port == l.port) || (at.addr == 0)
    || not ((l.addr == 0) || (l.addr == at.addr)) || is_no_end from

-- an owner's own end, and the other's
abbrev pub own_end : Owner → End
own_end a = record { addr = a.addr; port = a.port }

abbrev pub other_end : Owner → End
other_end a = record { addr = a.remote; port = a.rport }

-- the socket of that name, with that mark, which a listener accepts when a request's handshake is over: at the
-- request's ends
abbrev pub heir_owner : Owner → ℕ → ℕ → Owner → Owner
heir_owner l name mark r = child_owner l name mark (other_end r) (own_end r)

-- this is no listener, or none that could accept at the request's ends in its namespace
abbrev pub is_no_ack : Owner → Owner → Bool
is_no_ack l r = is_no_accept l (other_end r) (own_end r) || not (l.net == r.net)

-- the card of that kind under which lookups see it, with its mark
abbrev pub card_as : Kind → Owner → ℕ → Card
card_as kind a extra =
    record {
      local = a.addr;
      lport = a.port;
      remote = a.remote;
      rport = a.rport;
      dev = a.dev;
      net = a.net;
      kind = kind;
      name = a.name;
      extra = extra;
      mark = a.mark;
    }

-- the packet that the words of `look` describe
abbrev pub packet_asked : Query → Packet
packet_asked q =
    record {
      src = q.from.addr;
      sport = q.from.port;
      dst = q.to.addr;
      dport = q.to.port;
      dev = unwrap_or q.dev 0;
      net = unwrap_or q.net 0;
    }
