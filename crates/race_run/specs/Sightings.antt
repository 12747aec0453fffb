-- What a pass has seen once it has listed the chain of a bucket: our own.
use Rattle.std.specs.Prelude.{◌≡◌, ℕ, ◌+◌, List, [], ◌∷◌, ◌++◌}
use Rattle.nulls_chain.specs.Changes.{WasChain}
use Rattle.race_run.specs.Rows.{Row, cards_of, IsChain}
use Rattle.sock_card.specs.declared.card.Card.{Card}
use Rattle.table_rule.specs.Book.{open-end}
use Rattle.table_rule.specs.Plays.{IsAbove}
use Rattle.table_rule.specs.declared.view.Sight.{Sight}
use Rattle.table_rule.specs.declared.view.View.{View}

-- the whole chain of a bucket was seen, between these numbers of the clock
abbrev pub sighting : (from to bucket : ℕ) → Row → Sight
sighting from to bucket row =
    record {
      bucket = bucket ∷ [];
      listed = row.chain;
      held = [];
      whole = 1;
      since = from;
      instant = row.instant;
      until = to;
    }

-- those of several buckets, from this one on
abbrev pub sightings : (from to bucket : ℕ) → List Row → List Sight
sightings from to bucket [] = []
sightings from to bucket (row ∷ more) = sighting from to bucket row ∷ sightings from to (bucket + 1) more

-- it has locked a bucket, seen this chain there, and given the lock back
abbrev pub having_seen : View → (bucket : ℕ) → Row → View
having_seen v bucket row =
    record v {
      chain = record { locked = []; walked = []; ahead = []; met = 0 };
      since = v.seen;
      twice = 0;
      sights = v.sights ++ sighting v.seen open-end bucket row ∷ [];
    }

-- under one lock a bucket's chain was listed behind what was there; of a pass that was never split it is what the
-- pass's changes make
pub record Lists (bucket : ℕ) (old new : List Card) (v w : View) : Type 0 where
  pub row : Row
  pub above : IsAbove v row.instant
  pub is-chain : IsChain row.chain
  pub listed : new ≡ old ++ cards_of row.chain
  pub sole : WasChain row.chain bucket v
  pub saw : w ≡ having_seen v bucket row
