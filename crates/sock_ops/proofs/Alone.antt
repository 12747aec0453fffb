-- What a call comes to on a pass that was never split, as deeds describe it.
use Rattle.std.proofs.Common.{◌≡◌, ℕ, ◌<◌, List, [], ◌∷◌, Option, None, Some, find, Result, Ok, Err, sym, ap, ◌∙◌, subst}
use Rattle.sock_card.specs.declared.card.Card.{Card}
use Rattle.chain_book.specs.Homes.{chain_count}
use Rattle.chain_book.specs.Slots.{free_slot}
use Rattle.chain_book.specs.declared.outcome.Hashed.{Hashed}
use Rattle.chain_book.specs.Chains.{Chains, Outcome, put, taken, full, row_at, home_in, keeps, waits, tried, slot_outcome, insert_outcome, add_outcome, hashed, unhashed}
use Rattle.table_rule.specs.Sole.{IsNow}
use Rattle.table_rule.specs.declared.view.View.{View}
use Rattle.table_rule.specs.declared.view.Layout.{Layout}
use Rattle.table_rule.specs.declared.view.Seen.{Seen}
use Rattle.sock_slots.specs.declared.fresh.Full.{Full}
use Rattle.nulls_chain.specs.declared.keeping.Place.{Place}
use Rattle.established.specs.Rows.{row_of}
use Rattle.established.specs.Surveys.{keeper_in, waiting_in}
use Rattle.established.specs.Comings.{IsChain}
use Rattle.established.specs.Alone.{chains_of, next_after, IsTold, IsAdded, InsertsAlone, AddsAlone, LeavesAlone, WaitsAlone}
use Rattle.established.specs.declared.survey.Newcomer.{Newcomer}
use Rattle.established.specs.declared.coming.Inserted.{Inserted}
use Rattle.established.specs.declared.coming.InsertEnd.{InsertEnd}
use Rattle.established.specs.declared.coming.InsertEnd.TheVariants as ends
use Rattle.established.proofs.Rows.{row_at_is}
use Rattle.race_record.specs.Deeds.{Wish, Tried, inserted, added, left}
use Rattle.race_record.specs.Goes.{outcome_of}
use Rattle.chain_book.specs.declared.book.Change.{Change}
use Rattle.sock_ops.specs.Made.{AnswersAlone}
use Rattle.sock_ops.proofs.Left.{side}

-- Which outcome an answer reports

slot_told : (bucket : ℕ) (card : Card) (t : Chains) (o : Option ℕ) (old : Option Hashed) (i : Inserted) → IsTold bucket card (slot_outcome t o old) (Ok i) → slot_outcome t o old ≡ put i.place.slot old
slot_told bucket card t (Some slot) old i h = ap (λ (p : Place). put p.slot old) (sym h.0)
slot_told bucket card t None old i h = absurd h

-- a newcomer that came: into its slot, for the TIME_WAIT that its chain had
pub came_told : (layout : Layout) (from bucket : ℕ) (new : Newcomer) (i : Inserted) (v : View) (xs : List Seen) → bucket < chain_count layout.shape → IsNow v → IsChain v bucket xs
    → home_in (chains_of layout from v.book.closed) new.card ≡ bucket → keeper_in new (row_of xs) ≡ None
    → IsTold bucket new.card (insert_outcome (chains_of layout from v.book.closed) new.card new.moment new.replace) (Ok i)
    → insert_outcome (chains_of layout from v.book.closed) new.card new.moment new.replace ≡ put i.place.slot (waiting_in new (row_of xs))
came_told layout from bucket new i v xs near now seen home unkept told =
    let t : Chains = chains_of layout from v.book.closed in
    let row : row_at t (home_in t new.card) ≡ row_of xs =
    ap (row_at t) home ∙ (row_at_is layout from v.book.closed bucket near ∙ ap row_of (sym (seen.sole now.bare.0))) in
    let is : insert_outcome t new.card new.moment new.replace ≡ slot_outcome t (free_slot t.slots) (waiting_in new (row_of xs)) =
    ap (λ (r : List Hashed). tried t (find (keeps new.card new.moment new.replace) r) (find (waits new.card) r)) row
    ∙ ap (λ (o : Option Hashed). tried t o (waiting_in new (row_of xs))) unkept in
    is ∙ slot_told bucket new.card t (free_slot t.slots) (waiting_in new (row_of xs)) i (subst (λ (o : Outcome). IsTold bucket new.card o (Ok i)) is told)

pub taken_told : (bucket : ℕ) (card : Card) (x : Outcome) (name : ℕ) → IsTold bucket card x (Err (ends.Taken name)) → x ≡ taken name
taken_told bucket card (put slot old) name h = absurd h
taken_told bucket card (taken keeper) name h = ap taken (sym h)
taken_told bucket card (full owned held) name h = absurd h

pub full_told : (bucket : ℕ) (card : Card) (x : Outcome) (f : Full) → IsTold bucket card x (Err (ends.Full f)) → x ≡ full f.owned f.held
full_told bucket card (put slot old) f h = absurd h
full_told bucket card (taken keeper) f h = absurd h
full_told bucket card (full owned held) f h = ap (λ (g : Full). full g.owned g.held) (sym h)

-- one that was added
abbrev pub outcome_by : Result Place Full → Outcome
outcome_by (Ok place) = put place.slot None
outcome_by (Err f) = full f.owned f.held

pub added_told : (bucket : ℕ) (card : Card) (x : Outcome) (r : Result Place Full) → IsAdded bucket card x r → x ≡ outcome_by r
added_told bucket card (put slot None) (Ok place) h = ap (λ (p : Place). put p.slot None) (sym h)
added_told bucket card (put slot (Some old)) (Ok place) h = absurd h
added_told bucket card (taken keeper) (Ok place) h = absurd h
added_told bucket card (full owned held) (Ok place) h = absurd h
added_told bucket card (put slot None) (Err f) h = absurd h
added_told bucket card (put slot (Some old)) (Err f) h = absurd h
added_told bucket card (taken keeper) (Err f) h = absurd h
added_told bucket card (full owned held) (Err f) h = ap (λ (g : Full). full g.owned g.held) (sym h)

-- Answers of deeds

pub insert_answers : (layout : Layout) (from bucket : ℕ) (wish : Wish) (t : Tried) (result : Result Inserted InsertEnd) (v w : View)
    → InsertsAlone layout from bucket (record { card = wish.card; moment = wish.moment; replace = wish.rule }) result v w
    → (IsNow v → insert_outcome (chains_of layout from v.book.closed) wish.card wish.moment wish.rule ≡ outcome_of t)
    → AnswersAlone (inserted wish t ∷ []) (side layout v from) (side layout w (next_after (outcome_of t) from))
insert_answers layout from bucket wish t result v w alone told now =
    let a = alone now in
    let before : Chains = chains_of layout from v.book.closed in
    let left_so = subst (λ (x : Outcome). chains_of layout (next_after x from) w.book.closed ≡ hashed before wish.card x) (told now) a.1 in
    (λ buckets. (told now, sym left_so), a.2)

pub add_answers : (layout : Layout) (from bucket : ℕ) (card : Card) (t : Tried) (result : Result Place Full) (v w : View) → AddsAlone layout from bucket card result v w → outcome_by result ≡ outcome_of t
    → AnswersAlone (added card t ∷ []) (side layout v from) (side layout w (next_after (outcome_of t) from))
add_answers layout from bucket card t result v w alone told now =
    let a = alone now in
    let before : Chains = chains_of layout from v.book.closed in
    let is : add_outcome before ≡ outcome_of t = added_told bucket card (add_outcome before) result a.0 ∙ told in
    let left_so = subst (λ (x : Outcome). chains_of layout (next_after x from) w.book.closed ≡ hashed before card x) is a.1 in
    (λ buckets. (is, sym left_so), a.2)

pub leave_answers : (layout : Layout) (next : ℕ) (place : Place) (u : Change) (v w : View) → u.bucket ≡ place.bucket → u.slot ≡ place.slot → LeavesAlone layout place v w
    → AnswersAlone (left u ∷ []) (side layout v next) (side layout w next)
leave_answers layout next place u v w at in_ alone now =
    let a = alone now in
    (λ buckets. (λ k. unhashed (chains_of layout next v.book.closed) (record { bucket = at k; slot = in_ k })) ∙ sym (a.0 next), a.1)

pub wait_answers : (layout : Layout) (from : ℕ) (place : Place) (card : Card) (t : Tried) (u : Change) (result : Result Place Full) (v w : View) → u.bucket ≡ place.bucket → u.slot ≡ place.slot
    → WaitsAlone layout from place card result v w → outcome_by result ≡ outcome_of t
    → AnswersAlone (added card t ∷ left u ∷ []) (side layout v from) (side layout w (next_after (outcome_of t) from))
wait_answers layout from place card t u result v w at in_ alone told now =
    let a = alone now in
    let before : Chains = chains_of layout from v.book.closed in
    let is : add_outcome before ≡ outcome_of t = added_told place.bucket card (add_outcome before) result a.0 ∙ told in
    let left_so = subst (λ (x : Outcome). chains_of layout (next_after x from) w.book.closed ≡ unhashed (hashed before card x) (record { bucket = place.bucket; slot = place.slot })) is a.1 in
    (λ buckets. (is, (λ k. unhashed (hashed before card (outcome_of t)) (record { bucket = at k; slot = in_ k })) ∙ sym left_so), a.2)
