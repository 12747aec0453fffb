-- What a list contains: the sockets of the flat list's own list, by their numbers. Our own.
use Rattle.std.specs.Prelude.{◌/◌, ◌^◌, List, map}
use Rattle.sock_card.specs.declared.card.Card.{Card}
use Rattle.flat_list.specs.Listed.{listed}
use Rattle.flat_list.specs.Sections as sections
use Rattle.flat_calls.specs.declared.item.Item.{Item}
use Rattle.flat_calls.specs.Calls.{Numbered}
use Rattle.flat_calls.specs.Numbers.{number_of}
use Rattle.flat_calls.specs.Sights.{kind_of}

-- what is listed of the socket with that card
abbrev pub item_of : Numbered → Card → Item
item_of t card =
    record {
      kind = kind_of card.kind;
      worker = card.name / 2 ^ 56;
      socket = number_of (sections.label_of t.flat.sections card.name);
      addr = card.local;
      peer_addr = card.remote;
      port = card.lport;
      peer_port = card.rport;
      dev = card.dev;
      net = card.net;
    }

-- what is listed of all hashed sockets, in the order of a dump
abbrev pub items_of : Numbered → List Item
items_of t = map (item_of t) (listed t.flat)
