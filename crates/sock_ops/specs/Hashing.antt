-- What hashing a connected socket or a request came to, in an operation's words: our own.
use Rattle.std.specs.Prelude.{◌≡◌, ℕ, Option, Result, Ok, Err, [], ◌∷◌}
use Rattle.std.specs.Option.{option_map}
use Rattle.sock_card.specs.declared.owner.Owner.{Owner}
use Rattle.sock_card.specs.declared.card.Card.{Card}
use Rattle.chain_book.specs.declared.book.Change.{Change}
use Rattle.chain_book.specs.declared.outcome.Place.{Place}
use Rattle.chain_book.specs.declared.outcome.Replace.{Replace}
use Rattle.chain_book.specs.declared.outcome.Replace.TheVariants as rules
use Rattle.chain_book.specs.Homes.{home}
use Rattle.nulls_chain.specs.Changes.{IsPlaced}
use Rattle.table_rule.specs.Calls.{HasShares}
use Rattle.table_rule.specs.declared.view.View.{View}
use Rattle.established.specs.Comings.{FourDrawn}
use Rattle.established.specs.declared.coming.InsertEnd.{InsertEnd}
use Rattle.established.specs.declared.coming.InsertEnd.TheVariants as inserts
use Rattle.race_record.specs.Deeds.{Wish, hashed, kept_out, no_slot, inserted}
use Rattle.table_model.specs.declared.operation.Cause.TheVariants as causes
use Rattle.table_model.specs.declared.operation.OpEnd.{OpEnd}
use Rattle.table_model.specs.declared.operation.OpEnd.TheVariants as errors
use Rattle.table_model.specs.Operations.{full_card, request_card}
use Rattle.sock_ops.specs.Sides.{Side}
use Rattle.sock_ops.specs.Made.{Does}
use Rattle.sock_ops.specs.Answers.{name_in}
use Rattle.sock_ops.specs.declared.hashing.Came.{Came}

-- what a card wishes
abbrev pub wish_of : Card → ℕ → Replace → Wish
wish_of card moment rule = record { card = card; moment = moment; rule = rule }

-- what a full owner wishes
abbrev pub wish_for : Owner → ℕ → Replace → Wish
wish_for a moment rule = wish_of (full_card a) moment rule

-- what a request wishes: each TIME_WAIT of its four-tuple gives way
abbrev pub request_wish : Owner → Wish
request_wish a = wish_of (request_card a) 0 rules.Always

-- it was hashed into that slot of the chain in which it belongs, in place of the TIME_WAIT of that name, if any
pub record PutsIn (wish : Wish) (place : Place) (replaced : Option ℕ) (c d : Side) : Type 0 where
  pub hash : Change
  pub old : Option Change
  pub does : Does (inserted wish (hashed hash old) ∷ []) c d
  pub bucket : place.bucket ≡ home c.layout.shape c.layout.seed wish.card
  pub slot : place.slot ≡ hash.slot
  pub replaced_is : replaced ≡ option_map name_in old
  pub placed : IsPlaced (record { bucket = place.bucket; slot = place.slot; card = wish.card }) d.view.book

-- no slot was free for it: so many were seen owned, and so many only held
pub record PutsNowhere (wish : Wish) (owned held : ℕ) (c d : Side) : Type 0 where
  pub number : ℕ
  pub does : Does (inserted wish (no_slot number owned held) ∷ []) c d

-- it was hashed; or the socket of that name keeps its four-tuple from it; or no slot was free; or the chain was
-- another's for too long, and nothing has changed
abbrev pub InsertsAs : Wish → Side → Side → Result Came OpEnd → Type 0
InsertsAs wish c d (Ok came) = PutsIn wish came.place came.replaced c d
InsertsAs wish c d (Err (errors.Taken name)) = Does (inserted wish (kept_out name) ∷ []) c d
InsertsAs wish c d (Err (errors.Full owned held)) = PutsNowhere wish owned held c d
InsertsAs wish c d (Err (errors.LeftOff causes.Busy)) = c ≡ d
InsertsAs wish c d (Err end) = ⊥

-- why it wasn't, in an operation's words
abbrev pub insert_error : InsertEnd → OpEnd
insert_error (inserts.Taken name) = errors.Taken name
insert_error (inserts.Full slots) = errors.Full slots.owned slots.held

-- a refused four-tuple costs no number of the clock, else four at most
abbrev pub DrawnAs : Result Came OpEnd → View → View → Type 0
DrawnAs (Err (errors.Taken name)) v w = (n : ℕ) → HasShares n v → HasShares n w
DrawnAs result v w = FourDrawn v w
