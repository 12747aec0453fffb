-- What it comes to that a card is to come into a shared chain, by the chain as it was seen under the lock:
-- __inet_check_established and inet_ehash_insert of net/ipv4/inet_hashtables.c. That the newcomer is there before the
-- TIME_WAIT that it replaces is gone is our own rule.
--
-- To be read from `Inserts` and `Adds` upwards: the contracts of `insert` and `add` cite them. What one change leaves
-- is in `Comes` and `Departs`.
use Rattle.std.specs.Prelude.{◌≡◌, ℕ, ◌+◌, ◌<◌, ◌≤◌, Option, None, Some, Result, Ok, Err, List, [], ◌∷◌}
use Rattle.std.specs.Option.{option_map}
use Rattle.list_words.specs.Lists.{Each}
use Rattle.sock_card.specs.Words.{packed, unpacked}
use Rattle.sock_card.specs.declared.card.Card.{Card}
use Rattle.chain_book.specs.declared.outcome.Hashed.{Hashed}
use Rattle.table_rule.specs.Calls.{HasShares, MayUnhash}
use Rattle.table_rule.specs.Lists.{stands}
use Rattle.table_rule.specs.Sole.{IsSole, IsBare, FirstFree, AllUsed, chain_from}
use Rattle.table_rule.specs.Plays.{without, beginning, dropping_beginning, locking, unlocking}
use Rattle.table_rule.specs.declared.view.View.{View}
use Rattle.table_rule.specs.declared.view.Layout.{Layout}
use Rattle.table_rule.specs.declared.view.Seen.{Seen}
use Rattle.sock_slots.specs.declared.fresh.Full.{Full}
use Rattle.sock_slots.specs.Claims.{IsFull}
use Rattle.nulls_chain.specs.Changes as changes
use Rattle.nulls_chain.specs.Changes.{Rest, Sees}
use Rattle.nulls_chain.specs.declared.keeping.Place.{Place}
use Rattle.established.specs.Rows.{row_of, card_words, HasCard, IsIn}
use Rattle.established.specs.Surveys.{keeper_in, waiting_in}
use Rattle.established.specs.declared.survey.Newcomer.{Newcomer}
use Rattle.established.specs.declared.coming.Inserted.{Inserted}
use Rattle.established.specs.declared.coming.InsertEnd.{InsertEnd}
use Rattle.established.specs.declared.coming.InsertEnd.TheVariants as ends

-- a pass that has walked the whole of a bucket that it locked, and found this list
abbrev pub walking : View → ℕ → List Seen → View
walking v bucket xs =
    record (locking v bucket) { chain = record { locked = bucket ∷ []; walked = xs; ahead = []; met = 1 } }

-- a chain that a pass saw whole under the lock: each of its slots once; where the pass is alone, it is what the
-- pass's own changes make
pub record IsChain (v : View) (bucket : ℕ) (xs : List Seen) : Type 0 where
  pub once : (i : ℕ) → stands i xs ≤ 1
  pub sole : IsSole v → xs ≡ chain_from v.book.closed bucket

-- one change: that card, which its words give, came into that slot, and is first in the chain that the pass walked
pub record Comes (v w : View) (bucket slot : ℕ) (card : Card) : Type 0 where
  pub chain : w.chain ≡ changes.hashed v.chain slot (packed card)
  pub change : changes.Adds v w 1 bucket slot (card_words card)
  pub rest : Rest v w
  pub saw : Sees v w
  pub told : unpacked (packed card) ≡ card

-- one change: that card went, and the chain that the pass walked is without its slot
pub record Departs (v w : View) (bucket slot : ℕ) (card : Card) : Type 0 where
  pub chain : w.chain ≡ record v.chain { walked = without slot v.chain.walked }
  pub change : changes.Adds v w 0 bucket slot (card_words card)
  pub rest : Rest v w
  pub saw : Sees v w

-- the same, if anybody goes
abbrev pub Goes : View → View → ℕ → Option Hashed → Type 0
Goes v w bucket None = w ≡ v
Goes v w bucket (Some x) = Departs v w bucket x.slot x.card

-- who is found stands in the walked list, and the pass may unhash it
abbrev pub IsOut : Option Hashed → View → Type 0
IsOut None v = Unit {0}
IsOut (Some x) v = IsIn x v.chain.walked × MayUnhash x.slot v

-- four numbers of the clock were drawn at most: what else the pass could draw it still can
abbrev pub FourDrawn : View → View → Type 0
FourDrawn v w = (more : ℕ) → HasShares (more + 4) v → HasShares more w

-- a slot was claimed, in which nobody of the chain stands: of a pass that is alone and has no count out, the first
-- that is free from one on
pub record IsFree (layout : Layout) (v : View) (xs : List Seen) (from slot : ℕ) : Type 0 where
  pub inside : slot < layout.shape.slots
  pub far : stands slot xs ≡ 0
  pub first : IsBare v → FirstFree v.book.closed layout.shape.slots from slot

-- no slot was free: each was read as owned or as held alone, and of the change only the number of its beginning is
-- gone; of a pass that is alone and has no count out, all are used
pub record FindsNone (layout : Layout) (v w : View) (f : Full) : Type 0 where
  pub begin : ℕ
  pub later : v.seen ≤ begin
  pub seen : View
  pub full : IsFull layout (beginning v begin) seen f
  pub is : w ≡ dropping_beginning seen
  pub alone : IsBare v → AllUsed v.book.closed 0 layout.shape.slots × (f.held ≡ 0)

-- who gives way, as a name
abbrev pub name_of : Hashed → ℕ
name_of x = x.card.name

-- the newcomer is there, and then who gives way is gone
pub record Admits (layout : Layout) (from bucket : ℕ) (new : Newcomer) (xs : List Seen) (i : Inserted)
    (v w : View) : Type 0 where
  pub bucket_is : i.place.bucket ≡ bucket
  pub card_is : i.place.card ≡ new.card
  pub unkept : keeper_in new (row_of xs) ≡ None
  pub replaced : i.replaced ≡ option_map name_of (waiting_in new (row_of xs))
  pub slot : IsFree layout v xs from i.place.slot
  pub between : View
  pub comes : Comes v between bucket i.place.slot new.card
  pub goes_out : Goes between w bucket (waiting_in new (row_of xs))

-- its four-tuple is kept from it, by the first of the chain that does
pub record Refuses (new : Newcomer) (xs : List Seen) (name : ℕ) (v w : View) : Type 0 where
  pub keeper : option_map name_of (keeper_in new (row_of xs)) ≡ Some name
  pub same : w ≡ v

-- nobody keeps it out, and no slot is free
pub record FindsNoSlot (layout : Layout) (new : Newcomer) (xs : List Seen) (f : Full) (v w : View) : Type 0 where
  pub unkept : keeper_in new (row_of xs) ≡ None
  pub none : FindsNone layout v w f

abbrev pub ComesTo :
    Layout → (from bucket : ℕ) → Newcomer → List Seen → Result Inserted InsertEnd → View → View → Type 0
ComesTo layout from bucket new xs (Ok i) v w = Admits layout from bucket new xs i v w
ComesTo layout from bucket new xs (Err (ends.Taken name)) v w = Refuses new xs name v w
ComesTo layout from bucket new xs (Err (ends.Full full)) v w = FindsNoSlot layout new xs full v w

-- under one lock
pub record Inserts (layout : Layout) (from bucket : ℕ) (new : Newcomer) (result : Result Inserted InsertEnd)
    (v w : View) : Type 0 where
  pub chain : List Seen
  pub seen : IsChain v bucket chain
  pub cards : Each HasCard chain
  pub left : View
  pub comes : ComesTo layout from bucket new chain result (walking v bucket chain) left
  pub instant : ℕ
  pub unlocked : w ≡ unlocking left instant

-- a card comes that no four-tuple keeps out, or no slot is free
pub record IsHashed (layout : Layout) (from bucket : ℕ) (card : Card) (xs : List Seen) (place : Place)
    (v w : View) : Type 0 where
  pub bucket_is : place.bucket ≡ bucket
  pub card_is : place.card ≡ card
  pub slot : IsFree layout v xs from place.slot
  pub comes : Comes v w bucket place.slot card

abbrev pub HashesTo : Layout → (from bucket : ℕ) → Card → List Seen → Result Place Full → View → View → Type 0
HashesTo layout from bucket card xs (Ok place) v w = IsHashed layout from bucket card xs place v w
HashesTo layout from bucket card xs (Err full) v w = FindsNone layout v w full

-- under one lock
pub record Adds (layout : Layout) (from bucket : ℕ) (card : Card) (result : Result Place Full)
    (v w : View) : Type 0 where
  pub chain : List Seen
  pub seen : IsChain v bucket chain
  pub left : View
  pub comes : HashesTo layout from bucket card chain result (walking v bucket chain) left
  pub instant : ℕ
  pub unlocked : w ≡ unlocking left instant
