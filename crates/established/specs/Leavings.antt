-- What it comes to that a socket leaves a shared chain: inet_unhash of net/ipv4/inet_hashtables.c, and
-- inet_twsk_hashdance_schedule of net/ipv4/inet_timewait_sock.c, where the TIME_WAIT comes under the same lock;
-- inet_twsk_kill of the same file.
use Rattle.std.specs.Prelude.{◌≡◌, ℕ, List, Option, Result, false, find}
use Rattle.std.specs.Option.{option_map}
use Rattle.list_words.specs.Lists.{Each}
use Rattle.sock_card.specs.declared.card.Card.{Card}
use Rattle.chain_book.specs.declared.outcome.Hashed.{Hashed}
use Rattle.chain_book.specs.Chains.{waits_as}
use Rattle.table_rule.specs.Plays.{locking, unlocking}
use Rattle.table_rule.specs.declared.view.View.{View}
use Rattle.table_rule.specs.declared.view.Layout.{Layout}
use Rattle.table_rule.specs.declared.view.Seen.{Seen}
use Rattle.sock_slots.specs.declared.fresh.Full.{Full}
use Rattle.nulls_chain.specs.Changes.{Adds, Sees}
use Rattle.bucket_locks.specs.declared.locks.Locked.{Locked}
use Rattle.nulls_chain.specs.declared.keeping.Place.{Place}
use Rattle.established.specs.Rows.{row_of, card_words, HasCard}
use Rattle.established.specs.Comings.{walking, IsChain, Departs, Goes, HashesTo}

-- what a call leaves of all else that its pass knows: the numbers that it lost, the counts that it took, its lookups
abbrev pub Quiet : View → View → Type 0
Quiet v w = (w.book.lost ≡ v.book.lost) × (w.slot.taken ≡ v.slot.taken) × (w.read ≡ v.read)

-- a pass that knew v has locked this bucket since, and has done nothing else: it has not begun to walk the chain
pub record HasLockSince (v : View) (locked : Locked) (bucket : ℕ) (w : View) : Type 0 where
  pub view : w ≡ locking v bucket
  pub bucket_is : locked.bucket ≡ bucket
  pub fresh : locked.started ≡ false

-- one change: who stood at the place is gone
pub record Leaves (place : Place) (v w : View) : Type 0 where
  pub change : Adds v w 0 place.bucket place.slot (card_words place.card)
  pub saw : Sees v w
  pub quiet : Quiet v w

-- under one lock a TIME_WAIT comes, if a slot is free, and then who stood at the place is gone
pub record Waits (layout : Layout) (from : ℕ) (place : Place) (card : Card) (result : Result Place Full)
    (v w : View) : Type 0 where
  pub chain : List Seen
  pub seen : IsChain v place.bucket chain
  pub between : View
  pub comes : HashesTo layout from place.bucket card chain result (walking v place.bucket chain) between
  pub left : View
  pub departs : Departs between left place.bucket place.slot place.card
  pub instant : ℕ
  pub unlocked : w ≡ unlocking left instant

abbrev pub slot_of : Hashed → ℕ
slot_of x = x.slot

-- the first TIME_WAIT of that name
abbrev pub waiting_as : ℕ → List Hashed → Option Hashed
waiting_as name row = find (waits_as name) row

-- under one lock the first TIME_WAIT of that name is gone, if the chain has one
pub record Reaps (bucket name : ℕ) (result : Option ℕ) (v w : View) : Type 0 where
  pub chain : List Seen
  pub seen : IsChain v bucket chain
  pub cards : Each HasCard chain
  pub slot : result ≡ option_map slot_of (waiting_as name (row_of chain))
  pub left : View
  pub goes : Goes (walking v bucket chain) left bucket (waiting_as name (row_of chain))
  pub instant : ℕ
  pub unlocked : w ≡ unlocking left instant
