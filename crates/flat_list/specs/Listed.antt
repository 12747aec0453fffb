-- What a dump lists: each socket of the established and listening hash tables, as inet_diag_dump_icsk of
-- net/ipv4/inet_diag.c goes over them. The order is our own.
use Rattle.std.specs.Prelude.{List}
use Rattle.sock_card.specs.declared.card.Card.{Card}
use Rattle.socket_list.specs.Order.{ascending}
use Rattle.flat_list.specs.Flat.{Flat}
use Rattle.flat_list.specs.Look.{cards_of}

-- the cards of all hashed sockets, ascending
abbrev pub listed : Flat → List Card
listed flat = ascending (cards_of flat.groups flat.sockets)
