-- The chains of a pass that was never split: what its own changes make, by what chain_book says of chains. Our own.
--
-- To be read from a call's relation upwards: `InsertsAlone`, `LeavesAlone`, `AddsAlone`, `WaitsAlone`, `HandsAlone`
-- and `ReapsAlone` are what contracts cite.
use Rattle.std.specs.Prelude.{◌≡◌, ℕ, ◌+◌, List, map, None, Result, Ok, Err, Option}
use Rattle.std.specs.List.{range_with_len}
use Rattle.std.specs.Option.{option_map}
use Rattle.sock_card.specs.declared.card.Card.{Card}
use Rattle.chain_book.specs.Homes.{chain_count}
use Rattle.chain_book.specs.Chains.{Chains, Outcome, put, taken, full, insert_outcome, add_outcome, hashed, unhashed, row_at, without_replaced}
use Rattle.table_rule.specs.Sole.{IsNow, chain_from, used_in}
use Rattle.table_rule.specs.declared.view.View.{View}
use Rattle.table_rule.specs.declared.view.Layout.{Layout}
use Rattle.table_rule.specs.declared.view.Change.{Change}
use Rattle.sock_slots.specs.declared.fresh.Full.{Full}
use Rattle.nulls_chain.specs.declared.keeping.Place.{Place}
use Rattle.established.specs.Rows.{row_of}
use Rattle.established.specs.Comings.{name_of}
use Rattle.established.specs.Handovers.{came}
use Rattle.established.specs.Leavings.{slot_of, waiting_as}
use Rattle.established.specs.declared.survey.Newcomer.{Newcomer}
use Rattle.established.specs.declared.coming.Inserted.{Inserted}
use Rattle.established.specs.declared.coming.InsertEnd.{InsertEnd}
use Rattle.established.specs.declared.coming.InsertEnd.TheVariants as ends

-- the chains that these changes make; the next search for a slot begins at next
abbrev pub chains_of : Layout → (next : ℕ) → List Change → Chains
chains_of layout next closed =
    record {
      shape = layout.shape;
      seed = layout.seed;
      rows = map (λ b. row_of (chain_from closed b)) (range_with_len 0 (chain_count layout.shape));
      slots = record { used = map (used_in closed) (range_with_len 0 layout.shape.slots); next = next };
    }

-- where the next search for a slot begins
abbrev pub next_after : Outcome → ℕ → ℕ
next_after (put slot old) from = slot + 1
next_after _ from = from

-- the answer reports that outcome
abbrev pub IsTold : (bucket : ℕ) → Card → Outcome → Result Inserted InsertEnd → Type 0
IsTold bucket card (put slot old) (Ok i) =
    (i.place ≡ record { bucket = bucket; slot = slot; card = card }) × (i.replaced ≡ option_map name_of old)
IsTold bucket card (taken keeper) (Err (ends.Taken name)) = name ≡ keeper
IsTold bucket card (full owned held) (Err (ends.Full f)) = f ≡ record { owned = owned; held = held }
IsTold bucket card outcome result = ⊥

-- of a pass that was never split, answer and chains are what chain_book says, and it is alone still
abbrev pub InsertsAlone : Layout → (from bucket : ℕ) → Newcomer → Result Inserted InsertEnd → View → View → Type 0
InsertsAlone layout from bucket new result v w =
    let before = chains_of layout from v.book.closed in
    let outcome = insert_outcome before new.card new.moment new.replace in
    IsNow v
    → IsTold bucket new.card outcome result
    × (chains_of layout (next_after outcome from) w.book.closed ≡ hashed before new.card outcome)
    × IsNow w

-- the chains are then without who stood at the place
abbrev pub LeavesAlone : Layout → Place → View → View → Type 0
LeavesAlone layout place v w =
    IsNow v
    → ((next : ℕ) → chains_of layout next w.book.closed
    ≡ unhashed (chains_of layout next v.book.closed) (record { bucket = place.bucket; slot = place.slot }))
    × IsNow w

-- the answer to adding a card reports that outcome
abbrev pub IsAdded : (bucket : ℕ) → Card → Outcome → Result Place Full → Type 0
IsAdded bucket card (put slot None) (Ok place) = place ≡ record { bucket = bucket; slot = slot; card = card }
IsAdded bucket card (full owned held) (Err f) = f ≡ record { owned = owned; held = held }
IsAdded bucket card outcome result = ⊥

-- a card was added, whatever stands in its chain
abbrev pub AddsAlone : Layout → (from bucket : ℕ) → Card → Result Place Full → View → View → Type 0
AddsAlone layout from bucket card result v w =
    let before = chains_of layout from v.book.closed in
    let outcome = add_outcome before in
    IsNow v
    → IsAdded bucket card outcome result
    × (chains_of layout (next_after outcome from) w.book.closed ≡ hashed before card outcome)
    × IsNow w

-- a TIME_WAIT was added, and who stood at the place is gone
abbrev pub WaitsAlone : Layout → (from : ℕ) → Place → Card → Result Place Full → View → View → Type 0
WaitsAlone layout from place card result v w =
    let before = chains_of layout from v.book.closed in
    let outcome = add_outcome before in
    IsNow v
    → IsAdded place.bucket card outcome result
    × (chains_of layout (next_after outcome from) w.book.closed
    ≡ unhashed (hashed before card outcome) (record { bucket = place.bucket; slot = place.slot }))
    × IsNow w

-- once a card was put, who stood at the place is gone
abbrev pub yielded : Chains → Place → Outcome → Chains
yielded t place (put slot old) = unhashed t (record { bucket = place.bucket; slot = place.slot })
yielded t place _ = t

-- a socket was added, and its request at the place is gone; or no slot was free, and all is as before
abbrev pub HandsAlone : Layout → (from : ℕ) → Place → Card → Result Place (Place × Full) → View → View → Type 0
HandsAlone layout from request card result v w =
    let before = chains_of layout from v.book.closed in
    let outcome = add_outcome before in
    IsNow v
    → IsAdded request.bucket card outcome (came result)
    × (chains_of layout (next_after outcome from) w.book.closed ≡ yielded (hashed before card outcome) request outcome)
    × IsNow w

-- the first TIME_WAIT of that name is gone from its chain, if there is one
abbrev pub ReapsAlone : Layout → (bucket name : ℕ) → Option ℕ → View → View → Type 0
ReapsAlone layout bucket name result v w =
    IsNow v
    → ((next : ℕ) →
    let before = chains_of layout next v.book.closed in
    let waiting = waiting_as name (row_at before bucket) in
    (result ≡ option_map slot_of waiting)
    × (chains_of layout next w.book.closed ≡ without_replaced before bucket waiting))
    × IsNow w
