-- What a worker is, and knows, once it has listed all sockets of the tables: our own.
use Rattle.std.specs.Prelude.{◌≡◌, ◌≤◌, List, ◌++◌, Some}
use Rattle.list_words.specs.Lists.{Each}
use Rattle.race_run.specs.Books.{AreTold}
use Rattle.race_run.specs.Dumps.{Keeps}
use Rattle.race_run.specs.Rows.{Row}
use Rattle.race_run.specs.Sightings.{sightings}
use Rattle.sock_ops.specs.Stands.{chained}
use Rattle.sock_ops.specs.declared.tables.Tables.{Tables}
use Rattle.sock_ops.specs.declared.tables.Worker.{Worker}
use Rattle.socket_list.specs.Listing.{Listing}
use Rattle.socket_list.specs.Order.{ascending}
use Rattle.socket_list.specs.declared.listing.Span.{Span}
use Rattle.table_rule.specs.Beyond.{SightTrue}
use Rattle.table_rule.specs.Book.{Part}
use Rattle.table_rule.specs.Plays.{settled}
use Rattle.table_rule.specs.Words.{bucket_count}

-- All of a worker is as it was, but for what it has seen: its entries and its groups, its changes and the room for
-- more, its slots and its lookups. So is all that its sockets stand by.
pub record KeepsAll (t : Tables) (w u : Worker) : Type 0 where
  pub turns : u.turns ≡ w.turns
  pub groups : u.groups ≡ w.groups
  pub changes : u.chain.pass.changes ≡ w.chain.pass.changes
  pub next : (chained t u).next ≡ (chained t w).next
  pub view : Keeps (chained t w).view (chained t u).view

-- The listing gives sockets in their order, and two loads of the clock: the first is no less than what the worker had
-- seen, and the second is what it has seen now. Between them it saw these chains whole, one of each bucket; and in
-- each book of changes in which that is true, so is what is listed.
pub record IsListing (t : Tables) (listing : Listing) (w u : Worker) : Type 0 where
  pub span : Span
  pub span-is : listing.span ≡ Some span
  pub begins : (chained t w).view.seen ≤ span.t0
  pub order : span.t0 ≤ span.t1
  pub ends : (chained t u).view.seen ≡ span.t1
  pub sorted : listing.cards ≡ ascending listing.cards
  pub rows : List Row
  pub sights :
      (chained t u).view.sights ≡ settled (settled (chained t w).view.sights span.t0) span.t1
      ++ sightings span.t0 span.t1 0 rows
  pub told : (views : List Part) → Each (SightTrue views) (sightings span.t0 span.t1 0 rows)
      → AreTold views (bucket_count t.chains.layout) span.t0 span.t1 listing.cards
