-- What a pass knows once it has listed all chains, one after the other: inet_diag_dump_icsk of net/ipv4/inet_diag.c
-- lists so. That it lists each life that was there throughout is our own.
use Rattle.std.specs.Prelude.{◌≡◌, ℕ, List, ◌++◌, map, length}
use Rattle.std.specs.List.{range_with_len}
use Rattle.list_words.specs.Lists.{Each, Pairs}
use Rattle.sock_card.specs.declared.card.Card.{Card}
use Rattle.race_run.specs.Books.{AreTold}
use Rattle.race_run.specs.Rows.{Row, chain_in, NotAfter, all_cards, IsChain}
use Rattle.race_run.specs.Sightings.{sightings}
use Rattle.race_run.specs.declared.chain_dump.dumping.Dump.{Dump}
use Rattle.table_rule.specs.Beyond.{SightTrue}
use Rattle.table_rule.specs.Book.{open-end, Part}
use Rattle.table_rule.specs.Plays.{settled}
use Rattle.table_rule.specs.Sole.{IsSole, chain_from}
use Rattle.table_rule.specs.Words.{bucket_count}
use Rattle.table_rule.specs.declared.view.Change.{Change}
use Rattle.table_rule.specs.declared.view.Layout.{Layout}
use Rattle.table_rule.specs.declared.view.Seen.{Seen}
use Rattle.table_rule.specs.declared.view.View.{View}

-- its slots and counts, its changes and its lookups are as they were: it made no change and drew nothing
pub record Keeps (v w : View) : Type 0 where
  pub layout : w.layout ≡ v.layout
  pub slot : w.slot ≡ v.slot
  pub book : w.book ≡ v.book
  pub read : w.read ≡ v.read
  pub done : w.done ≡ v.done

-- the chains of the first buckets, so many, that these changes make
abbrev pub chains_from : (count : ℕ) → List Change → List (List Seen)
chains_from count closed = map (chain_from closed) (range_with_len 0 count)

-- the cards of all of them, bucket by bucket
abbrev pub cards_from : Layout → List Change → List Card
cards_from layout closed = all_cards (chains_from (bucket_count layout) closed)

-- the chains of the first buckets, so many, were listed one behind the other, each seen whole and none earlier than
-- those before it
pub record ListsAll (count : ℕ) (old new : List Card) (v w : View) : Type 0 where
  pub rows : List Row
  pub each : length rows ≡ count
  pub ascend : Pairs NotAfter rows
  pub listed : new ≡ old ++ all_cards (map chain_in rows)
  pub chains : Each IsChain (map chain_in rows)
  pub sole : IsSole v → map chain_in rows ≡ chains_from count v.book.closed
  pub sights : w.sights ≡ v.sights ++ sightings v.seen open-end 0 rows

-- the items are the chains that it saw, one for each bucket, between the two loads of the clock; and in each book in
-- which what it saw is true, so are they
pub record Saw (layout : Layout) (dump : Dump) (v w : View) : Type 0 where
  pub rows : List Row
  pub each : length rows ≡ bucket_count layout
  pub items : dump.items.items ≡ all_cards (map chain_in rows)
  pub sights : w.sights ≡ settled (settled v.sights dump.t0) dump.t1 ++ sightings dump.t0 dump.t1 0 rows
  pub told : (views : List Part) → Each (SightTrue views) (sightings dump.t0 dump.t1 0 rows)
      → AreTold views (bucket_count layout) dump.t0 dump.t1 dump.items.items
