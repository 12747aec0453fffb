-- What `close` comes to among others: our own.
--
-- To be read from the beginning. Contracts of public calls cite `became`, `ClosedBy`, `leave_entry`, `is_gone` and
-- `OthersKept`; the rest is of private functions.
use Rattle.std.specs.Prelude.{◌≡◌, ℕ, [], ◌∷◌, None, Result, Ok, Err}
use Rattle.sock_card.specs.declared.card.Card.{Card}
use Rattle.sock_card.specs.declared.owner.Owner.{Owner}
use Rattle.bind_buckets.specs.declared.request.Entry.{Entry}
use Rattle.bind_buckets.specs.declared.request.Request.TheVariants as requests
use Rattle.bind_buckets.specs.declared.request.Answer.TheVariants as answers
use Rattle.bind_buckets.specs.Turned.{View}
use Rattle.chain_book.specs.declared.book.Change.{Change}
use Rattle.chain_book.specs.declared.outcome.Place.{Place}
use Rattle.chain_book.specs.Homes.{home}
use Rattle.nulls_chain.specs.declared.keeping.Place.{Place as Stood}
use Rattle.nulls_chain.specs.Changes.{OthersStay, PlacesStay}
use Rattle.table_rule.specs.declared.view.View.{View as ChainView}
use Rattle.sock_slots.specs.declared.fresh.Full.{Full}
use Rattle.table_model.specs.declared.operation.Cause.{Cause}
use Rattle.table_model.specs.declared.operation.OpEnd.{OpEnd}
use Rattle.table_model.specs.declared.operation.OpEnd.TheVariants as errors
use Rattle.table_model.specs.Asking.{Asking, ends}
use Rattle.table_model.specs.Operations as plan
use Rattle.race_record.specs.Deeds.{hashed, no_slot, added, left}
use Rattle.race_record.specs.Goes.{IsHashOf, IsUnhashAt}
use Rattle.sock_ops.specs.Sides.{Side}
use Rattle.sock_ops.specs.Made.{Does}
use Rattle.sock_ops.specs.declared.sock.Sock.{Sock}
use Rattle.sock_ops.specs.declared.sock.Sock.TheVariants as socks
use Rattle.sock_ops.specs.declared.leaving.Closed.{Closed}
use Rattle.sock_ops.specs.declared.leaving.Closed.TheVariants as closes
use Rattle.sock_ops.specs.Goes.{Went, LeftOff}

-- the place in a chain, without the card that stands there
abbrev pub spot_of : Stood → Place
spot_of old = record { bucket = old.bucket; slot = old.slot }

-- a card came into that place of the chain in which it belongs, and then who stood in the old one was gone
pub record Replaces (old : Stood) (card : Card) (place : Place) (c d : Side) : Type 0 where
  pub hash : Change
  pub is : IsHashOf card hash
  pub bucket : place.bucket ≡ home c.layout.shape c.layout.seed card
  pub slot : place.slot ≡ hash.slot
  pub unhash : Change
  pub goes : IsUnhashAt (spot_of old) old.card unhash
  pub does : Does (added card (hashed hash None) ∷ left unhash ∷ []) c d

-- no slot was free for a TIME_WAIT, and then who stood in the place was gone
pub record GoesAlone (old : Stood) (card : Card) (owned held : ℕ) (c d : Side) : Type 0 where
  pub number : ℕ
  pub unhash : Change
  pub goes : IsUnhashAt (spot_of old) old.card unhash
  pub does : Does (added card (no_slot number owned held) ∷ left unhash ∷ []) c d

abbrev pub WaitsAs : Stood → Card → Side → Side → Result Place Full → Type 0
WaitsAs old card c d (Ok place) = Replaces old card place c d
WaitsAs old card c d (Err full) = GoesAlone old card full.owned full.held c d

-- what became of a socket, in the plan's words
abbrev pub became : Closed → plan.Closed
became closes.Plain = plan.gone
became (closes.TimeWait m) = plan.waiting m
became (closes.NoSlot owned held) = plan.no_slot owned held

-- the plan of a socket of that name went on to its end, or was left off
abbrev pub Leaves :
    {X E : Type 0} → (X → plan.Closed) → ℕ → ℕ → Asking plan.Closed → View → View → Side → Side → Result X E → Type 0
Leaves did count name p v w c d (Ok x) = Went count p v w c d (ends (did x))
Leaves did count name p v w c d (Err end) = LeftOff count name p v w c d

-- there is no refusal but that it was left off
abbrev pub ClosedBy :
    {X : Type 0} → (X → plan.Closed) → ℕ → ℕ → Asking plan.Closed → View → View → Side → Side → Result X OpEnd → Type 0
ClosedBy did count name p v w c d (Ok x) = Went count p v w c d (ends (did x))
ClosedBy did count name p v w c d (Err (errors.LeftOff cause)) = LeftOff count name p v w c d
ClosedBy did count name p v w c d (Err end) = ⊥

-- what an owner asks that leaves its port
abbrev pub leave_entry : Owner → Entry
leave_entry a = record { request = requests.Remove a.name; answer = answers.Done }

abbrev pub is_gone : Unit {0} → plan.Closed
is_gone done = plan.gone

-- what `close` and `drop` hand back: the socket, where they were left off
abbrev pub close_answer : Sock → Result Closed Cause → Result Closed (Sock × OpEnd)
close_answer socket (Ok closed) = Ok closed
close_answer socket (Err cause) = Err (socket, errors.LeftOff cause)

abbrev pub drop_answer : Sock → Result (Unit {0}) Cause → Result (Unit {0}) (Sock × OpEnd)
drop_answer socket (Ok done) = Ok done
drop_answer socket (Err cause) = Err (socket, errors.LeftOff cause)

-- each other place of the pass stays one
abbrev pub OthersKept : Sock → ChainView → ChainView → Type 0
OthersKept (socks.Listening m) v w = OthersStay m.place.slot v w
OthersKept (socks.Full m) v w = OthersStay m.place.slot v w
OthersKept (socks.Request m) v w = OthersStay m.place.slot v w
OthersKept s v w = PlacesStay v w
