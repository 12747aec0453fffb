-- What a dump listed of chains that others change meanwhile, by what its worker saw: our own.
use Rattle.std.specs.Prelude.{◌≡◌, ℕ, ◌≤◌, List, [], ◌∷◌, ◌++◌, Some}
use Rattle.list_words.specs.Lists.{Each}
use Rattle.sock_card.specs.declared.card.Card.{Card}
use Rattle.socket_list.specs.Listing.{Listing}
use Rattle.socket_list.specs.Order.{ascending}
use Rattle.socket_list.specs.declared.listing.Span.{Span}
use Rattle.flat_list.specs.declared.command.Command.{Command}
use Rattle.flat_list.specs.declared.command.Command.TheVariants as commands
use Rattle.table_rule.specs.Beyond.{SightTrue}
use Rattle.table_rule.specs.Book.{Part}
use Rattle.table_rule.specs.Words.{bucket_count}
use Rattle.table_rule.specs.declared.view.Layout.{Layout}
use Rattle.table_rule.specs.declared.view.Sight.{Sight}
use Rattle.nulls_chain.specs.Changes.{Sees}
use Rattle.sock_ops.specs.Sides.{Side}
use Rattle.race_book.specs.Among.{Among}
use Rattle.race_record.specs.Record.{Step}
use Rattle.race_run.specs.Books.{AreTold}
use Rattle.race_run.specs.Dumps.{Keeps}
use Rattle.race_run.specs.Rows.{Row}
use Rattle.race_run.specs.Sightings.{sightings}

-- Between these two numbers all chains were listed, each seen whole, as sightings show; and in each book of changes
-- in which these are true, so are the cards.
pub record SawAll (layout : Layout) (sights : List Sight) (from to : ℕ) (cards : List Card) (span : Span) : Type 0 where
  pub begins : from ≤ span.t0
  pub order : span.t0 ≤ span.t1
  pub ends : span.t1 ≤ to
  pub sorted : cards ≡ ascending cards
  pub rows : List Row
  pub there : Each (Among sights) (sightings span.t0 span.t1 0 rows)
  pub told : (views : List Part) → Each (SightTrue views) (sightings span.t0 span.t1 0 rows)
      → AreTold views (bucket_count layout) span.t0 span.t1 cards

-- so a step's dump did; any other command lists nothing
abbrev pub SawAs : Layout → List Sight → Command → Step → Type 0
SawAs layout sights commands.Dump s =
    (cards : List Card) × (span : Span) × (s.listings ≡ record { cards = cards; span = Some span } ∷ [])
    × SawAll layout sights s.from s.to cards span
SawAs layout sights _ s = s.listings ≡ []

-- from one side to another all chains were listed, and nothing else was done
pub record Dumped (c d : Side) (cards : List Card) (span : Span) : Type 0 where
  pub layout : d.layout ≡ c.layout
  pub keeps : Keeps c.view d.view
  pub sees : Sees c.view d.view
  pub seen : d.view.seen ≡ span.t1
  pub saw : SawAll c.layout d.view.sights c.view.seen d.view.seen cards span

-- what a command listed: a dump all chains, any other command nothing
abbrev pub Listed : Command → Side → Side → List Listing → Type 0
Listed commands.Dump c d listings =
    (cards : List Card) × (span : Span) × (listings ≡ record { cards = cards; span = Some span } ∷ [])
    × Dumped c d cards span
Listed _ c d listings = (d ≡ c) × (listings ≡ [])

-- behind what had been listed before
abbrev pub ListsMore : Command → Side → Side → (old new : List Listing) → Type 0
ListsMore command c d old new = (more : List Listing) × (new ≡ old ++ more) × Listed command c d more
