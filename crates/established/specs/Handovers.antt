-- What it comes to that a request hands over to its socket in a shared chain: inet_ehash_insert of
-- net/ipv4/inet_hashtables.c with the request as osk, as inet_csk_complete_hashdance of net/ipv4/inet_connection_sock.c
-- calls it. That the socket is there before the request is gone is our own rule.
use Rattle.std.specs.Prelude.{◌≡◌, ℕ, ◌<◌, ◌⊎◌, List, length, Result, Ok, Err, slice_index}
use mathlib.Core.Option.{some}
use lib.ListN.{get_elem?}
use Rattle.atomic_table.specs.Table.{State}
use Rattle.sock_card.specs.declared.card.Card.{Card}
use Rattle.table_rule.specs.Owners.{IsPlace}
use Rattle.table_rule.specs.Plays.{unlocking}
use Rattle.table_rule.specs.Rule.{Holds}
use Rattle.table_rule.specs.Standing.{StandsIn, StandsBy, AsOf}
use Rattle.table_rule.specs.declared.view.Change.{Change}
use Rattle.table_rule.specs.declared.view.View.{View}
use Rattle.table_rule.specs.declared.view.Layout.{Layout}
use Rattle.table_rule.specs.declared.view.Seen.{Seen}
use Rattle.sock_slots.specs.declared.fresh.Full.{Full}
use Rattle.nulls_chain.specs.Changes.{IsPlacedBy}
use Rattle.nulls_chain.specs.declared.keeping.Place.{Place}
use Rattle.established.specs.Rows.{card_words}
use Rattle.established.specs.Comings.{walking, IsChain, Departs, HashesTo}

-- how the socket came, or why it didn't
abbrev pub came : Result Place (Place × Full) → Result Place Full
came (Ok place) = Ok place
came (Err e) = Err e.1

-- once the socket has come the request goes; else it stands as it did, and its place is handed back
abbrev pub Yields : Place → Result Place (Place × Full) → View → View → Type 0
Yields request (Ok place) v w = Departs v w request.bucket request.slot request.card
Yields request (Err e) v w = (e.0 ≡ request) × (w ≡ v)

-- the socket comes, if a slot is free, and then the request is gone
pub record HandsTo (layout : Layout) (from : ℕ) (request : Place) (card : Card) (xs : List Seen)
    (result : Result Place (Place × Full)) (v w : View) : Type 0 where
  pub between : View
  pub comes : HashesTo layout from request.bucket card xs (came result) v between
  pub yields : Yields request result between w

-- under one lock
pub record HandsOver (layout : Layout) (from : ℕ) (request : Place) (card : Card)
    (result : Result Place (Place × Full)) (v w : View) : Type 0 where
  pub chain : List Seen
  pub seen : IsChain v request.bucket chain
  pub left : View
  pub hands : HandsTo layout from request card chain result (walking v request.bucket chain) left
  pub instant : ℕ
  pub unlocked : w ≡ unlocking left instant

-- Of a handover by which the pass came from v to w, hash being that of its request: in each state of the table in which
-- the clock is past the hash's end, and in which the pass, number k there, has the book that it had at that clock, the
-- request stands or the socket does.
abbrev pub OneStands : Type 0
OneStands = (layout : Layout) (from : ℕ) (request place : Place) (card : Card) (v w : View) (hash : Change)
    → HandsOver layout from request card (Ok place) v w → IsPlacedBy (length v.book.closed) place w.book
    → IsPlace v.book hash → hash.slot ≡ request.slot
    → (s : State (Unit {0}) View) (k : ℕ) (x : View) → Holds layout s → get_elem? s.views k ≡ some x
    → AsOf (slice_index s.words 0) x.book w.book → hash.ends < slice_index s.words 0
    → StandsBy layout s hash
    ⊎ StandsIn layout (λ q. slice_index s.words q) place.bucket place.slot (card_words place.card)
