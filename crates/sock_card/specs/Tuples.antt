-- The four-tuple by which connected sockets are distinguished, within one network namespace: inet_match of
-- include/net/inet_hashtables.h, which compares namespace, ports and addresses, and devices apart from them.
use Rattle.std.specs.Prelude.{Bool, ◌==◌, ◌&&◌}
use Rattle.sock_card.specs.declared.card.Card.{Card}
use Rattle.sock_card.specs.declared.card.Packet.{Packet}
use Rattle.sock_card.specs.declared.card.Tuple.{Tuple}

-- a card's, whose own end is the local one
abbrev pub tuple_of : Card → Tuple
tuple_of card =
    record { net = card.net; local = card.local; lport = card.lport; remote = card.remote; rport = card.rport }

-- a packet's, which goes to the local end
abbrev pub packet_tuple : Packet → Tuple
packet_tuple packet =
    record { net = packet.net; local = packet.dst; lport = packet.dport; remote = packet.src; rport = packet.sport }

-- all that one says the other says
abbrev pub same_tuple : Tuple → Tuple → Bool
same_tuple a b =
    (a.net == b.net) && (a.local == b.local) && (a.lport == b.lport) && (a.remote == b.remote) && (a.rport == b.rport)
