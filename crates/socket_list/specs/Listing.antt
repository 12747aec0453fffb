-- What a dump reports: our own.
use Rattle.std.specs.Prelude.{List, Option}
use Rattle.sock_card.specs.declared.card.Card.{Card}
use Rattle.socket_list.specs.declared.listing.Span.{Span}

-- the cards of the sockets that it lists, ascending, and the two loads of the clock between which it did, where other
-- threads might be at the tables meanwhile
pub record Listing : Type 0 where
  pub cards : List Card
  pub span : Option Span
