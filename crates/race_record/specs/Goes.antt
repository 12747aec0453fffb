-- How a plan goes on by some answers of the tables, whoever else is at them: our own.
--
-- To be read from the end, `Goes`: each stands on those above it.
use Rattle.std.specs.Prelude.{◌≡◌, Bool, true, false, List, [], ◌∷◌, Option, None, Some}
use Rattle.sock_card.specs.declared.card.Card.{Card}
use Rattle.chain_book.specs.declared.book.Act.TheVariants as acts
use Rattle.chain_book.specs.declared.book.Change.{Change}
use Rattle.chain_book.specs.declared.outcome.Hashed.{Hashed}
use Rattle.chain_book.specs.declared.outcome.Place.{Place}
use Rattle.chain_book.specs.Chains.{Outcome, put, taken, full}
use Rattle.chain_book.specs.Tuples.{waits_at, may_replace}
use Rattle.table_model.specs.Asking.{Asking, ends, asks, inserts, adds, unhashes, reaps}
use Rattle.race_record.specs.Deeds.{Wish, Tried, hashed, kept_out, no_slot, Deed, entered, inserted, added, left, reaped}

-- the hash of that card
pub record IsHashOf (card : Card) (c : Change) : Type 0 where
  pub act : c.act ≡ acts.Hash
  pub card_is : c.card ≡ card

-- an unhash of that card
pub record IsUnhashOf (card : Card) (c : Change) : Type 0 where
  pub act : c.act ≡ acts.Unhash
  pub card_is : c.card ≡ card

-- an unhash of that card out of that place
pub record IsUnhashAt (place : Place) (card : Card) (c : Change) : Type 0 where
  pub unhash : IsUnhashOf card c
  pub bucket : c.bucket ≡ place.bucket
  pub slot : c.slot ≡ place.slot

-- the unhash of a TIME_WAIT that the wished card may replace
pub record Replaces (wish : Wish) (u : Change) : Type 0 where
  pub act : u.act ≡ acts.Unhash
  pub tuple : waits_at wish.card u.card ≡ true
  pub may : may_replace wish.rule wish.moment u.card ≡ true

-- what was made of a wish: a hash, with the unhash of what it replaces, or nothing
abbrev pub Grants : Wish → Tried → Type 0
Grants wish (hashed c None) = IsHashOf wish.card c
Grants wish (hashed c (Some u)) = IsHashOf wish.card c × Replaces wish u
Grants wish (kept_out name) = Unit {0}
Grants wish (no_slot number owned held) = Unit {0}

-- what was made of a card that no four-tuple keeps out, and that replaces none
abbrev pub Admits : Card → Tried → Type 0
Admits card (hashed c None) = IsHashOf card c
Admits card (hashed c (Some u)) = ⊥
Admits card (kept_out name) = ⊥
Admits card (no_slot number owned held) = Unit {0}

-- the unhash of a TIME_WAIT that was sought by the card's name
pub record IsReap (card : Card) (c : Change) : Type 0 where
  pub act : c.act ≡ acts.Unhash
  pub kind : c.card.kind ≡ card.kind
  pub name : c.card.name ≡ card.name

abbrev pub IsReapOf : Card → Option Change → Type 0
IsReapOf card None = Unit {0}
IsReapOf card (Some u) = IsReap card u

abbrev pub hashed_of : Change → Hashed
hashed_of c = record { slot = c.slot; card = c.card }

-- the outcome by which a plan goes on
abbrev pub outcome_of : Tried → Outcome
outcome_of (hashed c None) = put c.slot None
outcome_of (hashed c (Some u)) = put c.slot (Some (hashed_of u))
outcome_of (kept_out name) = taken name
outcome_of (no_slot number owned held) = full owned held

abbrev pub was_there : Option Change → Bool
was_there None = false
was_there (Some u) = true

-- The plan comes to that result by these deeds: each is what the plan asks for there, and by the deed's answer it
-- goes on.
abbrev pub Goes : {R : Type 0} → Asking R → List Deed → R → Type 0
Goes (ends r) [] result = result ≡ r
Goes (asks key request then_) (entered k note ∷ deeds) result =
    (k ≡ key) × (note.entry.request ≡ request) × Goes (then_ note.entry.answer) deeds result
Goes (inserts card moment rule then_) (inserted wish tried ∷ deeds) result =
    (wish ≡ record { card = card; moment = moment; rule = rule }) × Grants wish tried
    × Goes (then_ (outcome_of tried)) deeds result
Goes (adds card then_) (added c tried ∷ deeds) result =
    (c ≡ card) × Admits card tried × Goes (then_ (outcome_of tried)) deeds result
Goes (unhashes place card then_) (left u ∷ deeds) result = IsUnhashAt place card u × Goes then_ deeds result
Goes (reaps card then_) (reaped c unhash ∷ deeds) result =
    (c ≡ card) × IsReapOf card unhash × Goes (then_ (was_there unhash)) deeds result
Goes _ _ result = ⊥
