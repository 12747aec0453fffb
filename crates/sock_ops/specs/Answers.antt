-- What a call on shared chains answers by its deeds: our own.
--
-- To be read from a call's relation upwards: `Inserts`, `Adds`, `Removes`, `Waits`, `HandsOver` and `Reaps` are what
-- the contracts of calls cite.
use Rattle.std.specs.Prelude.{Option, ◌≡◌, ℕ, [], ◌∷◌, Result, Ok, Err}
use Rattle.std.specs.Option.{option_map}
use Rattle.sock_card.specs.declared.card.Card.{Card}
use Rattle.chain_book.specs.declared.book.Change.{Change}
use Rattle.table_rule.specs.Calls.{HasShares}
use Rattle.table_rule.specs.declared.view.View.{View}
use Rattle.nulls_chain.specs.declared.keeping.Place.{Place}
use Rattle.sock_slots.specs.declared.fresh.Full.{Full}
use Rattle.established.specs.Comings.{FourDrawn}
use Rattle.established.specs.declared.coming.Inserted.{Inserted}
use Rattle.established.specs.declared.coming.InsertEnd.{InsertEnd}
use Rattle.established.specs.declared.coming.InsertEnd.TheVariants as ends
use Rattle.race_record.specs.Deeds.{Wish, Tried, hashed, kept_out, no_slot, inserted, added, left, reaped}
use Rattle.race_record.specs.Goes.{IsUnhashAt}
use Rattle.sock_ops.specs.declared.chains.table.ChainPass.{ChainPass}
use Rattle.sock_ops.specs.Sides.{Side, TakesRoom}
use Rattle.sock_ops.specs.Made.{Does}

-- where a card was hashed
abbrev pub place_by : Card → Change → Place
place_by card hash = record { bucket = hash.bucket; slot = hash.slot; card = card }

abbrev pub name_in : Change → ℕ
name_in unhash = unhash.card.name

-- the answer reports what was tried
abbrev pub IsInserted : Card → Tried → Result Inserted InsertEnd → Type 0
IsInserted card (hashed hash old) (Ok i) = (i.place ≡ place_by card hash) × (i.replaced ≡ option_map name_in old)
IsInserted card (kept_out keeper) (Err (ends.Taken name)) = name ≡ keeper
IsInserted card (no_slot number owned held) (Err (ends.Full f)) = f ≡ record { owned = owned; held = held }
IsInserted card tried result = ⊥

abbrev pub IsAdded : Card → Tried → Result Place Full → Type 0
IsAdded card (hashed hash old) (Ok place) = place ≡ place_by card hash
IsAdded card (no_slot number owned held) (Err f) = f ≡ record { owned = owned; held = held }
IsAdded card tried result = ⊥

-- a full card or a request came, with a TIME_WAIT that gave way, or not
pub record Inserts (wish : Wish) (result : Result Inserted InsertEnd) (c d : Side) : Type 0 where
  pub tried : Tried
  pub answer : IsInserted wish.card tried result
  pub does : Does (inserted wish tried ∷ []) c d

-- a card came that no four-tuple keeps out, or not
pub record Adds (card : Card) (result : Result Place Full) (c d : Side) : Type 0 where
  pub tried : Tried
  pub answer : IsAdded card tried result
  pub does : Does (added card tried ∷ []) c d

-- who stood at the place is gone
pub record Removes (place : Place) (c d : Side) : Type 0 where
  pub unhash : Change
  pub is : IsUnhashAt (record { bucket = place.bucket; slot = place.slot }) place.card unhash
  pub does : Does (left unhash ∷ []) c d

-- a card came, if a slot was free, and then who stood at the place was gone
pub record Waits (place : Place) (card : Card) (result : Result Place Full) (c d : Side) : Type 0 where
  pub tried : Tried
  pub answer : IsAdded card tried result
  pub unhash : Change
  pub is : IsUnhashAt (record { bucket = place.bucket; slot = place.slot }) place.card unhash
  pub does : Does (added card tried ∷ left unhash ∷ []) c d

-- a full card came, and then its request was gone; or no slot was free, and the request stands
abbrev pub HandsOver : Place → Card → Result Place (Place × Full) → Side → Side → Type 0
HandsOver request card (Ok place) c d = Waits request card (Ok place) c d
HandsOver request card (Err e) c d = (e.0 ≡ request) × Adds card (Err e.1) c d

abbrev pub slot_in : Change → ℕ
slot_in unhash = unhash.slot

-- the first TIME_WAIT of the card's name in its chain is gone, if there was one
pub record Reaps (card : Card) (result : Option ℕ) (c d : Side) : Type 0 where
  pub unhash : Option Change
  pub answer : result ≡ option_map slot_in unhash
  pub does : Does (reaped card unhash ∷ []) c d

-- a refused four-tuple costs no number of the clock, else four at most
abbrev pub DrawnBy : Result Inserted InsertEnd → View → View → Type 0
DrawnBy (Err (ends.Taken name)) v w = (n : ℕ) → HasShares n v → HasShares n w
DrawnBy result v w = FourDrawn v w

-- who is refused takes no room, else so many changes are kept at most
abbrev pub RoomBy : {A E : Type 0} → ℕ → Result A E → ChainPass → ChainPass → Type 0
RoomBy n (Ok x) p q = TakesRoom n p q
RoomBy n (Err e) p q = TakesRoom 0 p q
