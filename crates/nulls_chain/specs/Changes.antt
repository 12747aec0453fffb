-- What hashing and unhashing a card in a locked chain may answer, and what the pass knows then:
-- __sk_nulls_add_node_rcu and __sk_nulls_del_node_init_rcu of include/net/sock.h, under the chain's lock.
--
-- Of a change, contracts cite `Adds`, which is what the pass has more then, and `Rest`, `Sees`, `PlacesStay` and
-- `OthersStay`, which say what stays. From these it is to be read upwards.
use Rattle.std.specs.Prelude.{true, ◌+◌, ◌≡◌, ◌≢◌, ◌==◌, ℕ, zero, suc, ◌<◌, ◌≤◌, ◌%◌, List, [], ◌∷◌, ◌++◌, Option, None, Some, Bool, cond, false, find, slice_index, ◌⊎◌}
use mathlib.Core.Option.{some}
use lib.ListN.{get_elem?}
use Rattle.list_words.specs.Lists.{Each}
use Rattle.table_rule.specs.CardsOk.{bears, claims, has_tuple, tuple}
use Rattle.table_rule.specs.declared.view.ChainView.{ChainView}
use Rattle.sock_card.specs.declared.words.CardWords.{CardWords}
use Rattle.table_rule.specs.declared.view.View.{View}
use Rattle.table_rule.specs.declared.view.Layout.{Layout}
use Rattle.table_rule.specs.declared.view.Seen.{Seen}
use Rattle.table_rule.specs.declared.view.Sight.{Sight}
use Rattle.table_rule.specs.Book.{open-end}
use Rattle.table_rule.specs.Calls.{Tells, HasShares, seen_of}
use Rattle.table_rule.specs.Owners.{IsPlace}
use Rattle.table_rule.specs.Sole.{IsSole, chain_from}
use Rattle.table_rule.specs.Plays.{without, sight_at, IsAbove}
use Rattle.table_rule.specs.Words.{words_of}
use Rattle.table_rule.specs.declared.view.BookView.{BookView}
use Rattle.table_rule.specs.declared.view.Change.{Change}
use Rattle.sock_card.specs.Words.{packed}
use Rattle.nulls_chain.specs.declared.keeping.Place.{Place}

-- by that test of cards, s hasn't the four-tuple of a card that begins with a and b
pub record Apart (test : ℕ → ℕ → ℕ → ℕ) (a b : ℕ) (s : Seen) : Type 0 where
  pub ends : ℕ
  pub ports : ℕ
  pub has-ends : get_elem? s.words 0 ≡ some ends
  pub has-ports : get_elem? s.words 1 ≡ some ports
  pub apart : test (tuple a b) ends ports ≡ 0

-- where the card is a full socket's or a request's, no such card of the list has its four-tuple
abbrev pub IsAlone : CardWords → List Seen → Type 0
IsAlone card xs = has_tuple card.ports ≡ true → Each (Apart claims card.ends card.ports) xs

-- where the card is a full socket's, no full socket's card of the list has its four-tuple: a request's may have it
abbrev pub HasNoTwin : CardWords → List Seen → Type 0
HasNoTwin card xs = card.ports % 16 ≡ 1 → Each (Apart bears card.ends card.ports) xs

abbrev pub hashed : ChainView → ℕ → CardWords → ChainView
hashed v slot card = record v { walked = seen_of slot card ∷ v.walked }

-- the slot stands in the list behind another, or first, and the walk shows its link
abbrev pub StandsAfter : Layout → ℕ → ℕ → View → Type 0
StandsAfter layout before slot v =
    (before < layout.shape.slots)
    × ((front : List Seen) × (p : Seen) × (s : Seen) × (back : List Seen) × (p.slot ≡ before) × (s.slot ≡ slot)
    × (v.chain.walked ≡ (front ++ p ∷ []) ++ s ∷ back) × Tells v back)

abbrev pub StandsFirst : ℕ → View → Type 0
StandsFirst slot v = (s : Seen) × (back : List Seen) × (s.slot ≡ slot) × (v.chain.walked ≡ s ∷ back) × Tells v back

abbrev pub Stands : Layout → Option ℕ → ℕ → View → Type 0
Stands layout None slot v = StandsFirst slot v
Stands layout (Some before) slot v = StandsAfter layout before slot v

-- the walk goes on over what was ahead
abbrev pub going : ChainView → List Seen → ℕ → ChainView
going v ahead met = record v { walked = v.walked ++ v.ahead; ahead = ahead; met = met }

-- a pass that is in the middle of no change again, with its parts and counts
abbrev pub Same : View → View → Type 0
Same v w = (w.slot.parts ≡ v.slot.parts) × (w.slot.holds ≡ v.slot.holds) × (w.book.opened ≡ []) × (v.seen ≤ w.seen)

-- a sighting has what was walked of the locked bucket, as that number of the clock was drawn
abbrev pub SawAt : View → View → ℕ → Type 0
SawAt v w number =
    (number < open-end) × (front : List Sight) × (back : List Sight) × (w.sights ≡ front ++ sight_at v number ∷ back)

-- a hash's chain was seen as its beginning was drawn
abbrev pub Began : (kind : ℕ) → View → View → ℕ → Type 0
Began zero v w number = Unit {0}
Began (suc n) v w number = SawAt v w number

-- one change more is closed, later than all that the pass had seen, with these numbers
abbrev pub AddsAt : View → View → ℕ → ℕ → ℕ → List ℕ → ℕ → ℕ → Type 0
AddsAt v w kind bucket slot card b e =
    (v.seen ≤ b) × (b < e) × (e < w.seen)
    × (w.book.closed ≡ v.book.closed
    ++ record { kind = kind; bucket = bucket; slot = slot; card = card; begins = b; ends = e } ∷ []) × Same v w
    × IsAbove v b × Began kind v w b

-- the same, with some numbers
abbrev pub Adds : View → View → ℕ → ℕ → ℕ → List ℕ → Type 0
Adds v w kind bucket slot card = (b : ℕ) × (e : ℕ) × AddsAt v w kind bucket slot card b e

-- what a change leaves: its parts and counts, its lookups, the numbers that it lost
abbrev pub Rest : View → View → Type 0
Rest v w = (w.slot.parts ≡ v.slot.parts) × (w.slot.holds ≡ v.slot.holds) × (w.book.lost ≡ v.book.lost)
    × (w.slot.taken ≡ v.slot.taken) × (w.read ≡ v.read) × (w.since ≡ v.since)

-- a sighting as it was, or one that waited for its second number and got one that is no smaller than this
abbrev pub IsSettled : (least : ℕ) → Sight → Sight → Type 0
IsSettled least s t = (t ≡ s) ⊎ ((s.until ≡ open-end) × (r : ℕ) × (least ≤ r) × (t ≡ record s { until = r }))

abbrev pub AreSettled : (least : ℕ) → List Sight → List Sight → Type 0
AreSettled least [] [] = Unit {0}
AreSettled least (s ∷ ss) (t ∷ ts) = IsSettled least s t × AreSettled least ss ts
AreSettled least ss ts = ⊥

-- all that the pass saw before stands, with more behind it
abbrev pub Sees : View → View → Type 0
Sees v w = (earlier : List Sight) × (more : List Sight) × AreSettled v.seen v.sights earlier
    × (w.sights ≡ earlier ++ more)

-- each place of the pass but those in that slot stays one
abbrev pub OthersStay : ℕ → View → View → Type 0
OthersStay slot v w = (hash : Change) → hash.slot ≢ slot → IsPlace v.book hash → IsPlace w.book hash

-- each place of the pass stays one
abbrev pub PlacesStay : View → View → Type 0
PlacesStay v w = (hash : Change) → IsPlace v.book hash → IsPlace w.book hash

-- each place of the pass with another card than this place's stays one
abbrev pub OtherPlacesStay : Place → View → View → Type 0
OtherPlacesStay place v w =
    (hash : Change) → hash.card ≢ words_of (packed place.card) → IsPlace v.book hash → IsPlace w.book hash

-- no place of the pass in another bucket has this place's slot
abbrev pub IsApart : Place → BookView → Type 0
IsApart place b = (hash : Change) → IsPlace b hash → hash.slot ≡ place.slot → hash.bucket ≡ place.bucket

-- the pass hashed this card, no TIME_WAIT's, into this slot of this bucket, and has not begun to unhash it
abbrev pub IsPlaced : Place → BookView → Type 0
IsPlaced place b =
    (hash : Change) × (hash.bucket ≡ place.bucket) × (hash.slot ≡ place.slot)
    × (hash.card ≡ words_of (packed place.card)) × IsPlace b hash

-- that is so by the pass's change of this number
abbrev pub IsPlacedBy : (nth : ℕ) → Place → BookView → Type 0
IsPlacedBy nth place b =
    (hash : Change) × (get_elem? b.closed nth ≡ some hash) × (hash.bucket ≡ place.bucket) × (hash.slot ≡ place.slot)
    × (hash.card ≡ words_of (packed place.card)) × IsPlace b hash

-- a change draws two numbers of the clock at most: what else the pass could draw it still can
abbrev pub TwoDrawn : View → View → Type 0
TwoDrawn v w = (more : ℕ) → HasShares (more + 2) v → HasShares more w

-- the card is a TIME_WAIT's of this name
abbrev pub waits_as : ℕ → List ℕ → Bool
waits_as name ws = cond (slice_index ws 1 % 16 == 2) (slice_index ws 2 == name) false

-- the first TIME_WAIT of this name in a list
abbrev pub wait_in : ℕ → List Seen → Option Seen
wait_in name xs = find (λ (s : Seen). waits_as name s.words) xs

-- the whole chain as it was found: on a sole pass it is what the pass's changes make
abbrev pub WasChain : List Seen → ℕ → View → Type 0
WasChain whole bucket v = IsSole v → whole ≡ chain_from v.book.closed bucket

-- the first TIME_WAIT of this name was taken out of the chain
abbrev pub TookWait : (name bucket slot : ℕ) → View → View → Type 0
TookWait name bucket slot v w =
    (whole : List Seen) × (s : Seen) × WasChain whole bucket v × (wait_in name whole ≡ Some s) × (s.slot ≡ slot)
    × Adds v w 0 bucket slot s.words × (w.chain.walked ≡ without slot whole)

-- the chain has no TIME_WAIT of this name, and the walk has met its end
abbrev pub HasNoWait : (name bucket : ℕ) → View → View → Type 0
HasNoWait name bucket v w =
    WasChain w.chain.walked bucket v × (wait_in name w.chain.walked ≡ None) × (w.chain.met ≡ 1)
    × (w ≡ record v { chain = w.chain })
