-- What inserting and adding a card answer by the list, and that the chains mean the list then.
use Rattle.std.proofs.Common.{◌≡◌, ℕ, ◌+◌, ◌<◌, ◌≤◌, Bool, true, false, ◌&&◌, cond, List, [], ◌∷◌, find, length, Option, Some, None, refl, ap, sym, ◌∙◌, subst, arith}
use Rattle.std.specs.Prelude.{is_some}
use Rattle.std.proofs.lemmas.Bool.{lt-ltb, le-ltb}
use Rattle.std.proofs.lemmas.List.{get_or-set_same}
use Rattle.list_words.specs.Lists.{total}
use Rattle.sock_card.specs.declared.card.Card.{Card}
use Rattle.sock_card.specs.declared.owner.Owner.{Owner}
use Rattle.chain_book.specs.declared.shape.Shape.{Shape}
use Rattle.chain_book.specs.declared.outcome.Hashed.{Hashed}
use Rattle.chain_book.specs.declared.outcome.Replace.{Replace}
use Rattle.chain_book.specs.Chains.{Chains, put, taken, full, row_at, home_in, keeps, waits, placed, slot_outcome, tried, insert_outcome, without_replaced, hashed}
use Rattle.chain_book.specs.Homes.{chain_count}
use Rattle.chain_book.specs.Slots.{free_slot}
use Rattle.chain_book.specs.Tuples.{same_cards}
use Rattle.flat_list.specs.declared.socket.Socket.{Socket}
use Rattle.flat_list.specs.Flat.{Flat}
use Rattle.flat_list.specs.Look.{extra_as}
use Rattle.flat_list.specs.Outcome.{has_slot as has_room}
use Rattle.flat_list.specs.Sockets.{slots_used, without_waiting}
use Rattle.flat_list.specs.Sound.{IsSound}
use Rattle.table_model.specs.Means.{ChainsMean, IsShape}
use Rattle.table_model.proofs.parts.Claims.{claim_card, claim_awake}
use Rattle.table_model.proofs.parts.Slots.{free_is, none_free, room_left, no_room}
use Rattle.table_model.proofs.parts.Chains.{Holds, holds, means, weighing, weighs_same, home_below, placed_holds, unhashed_holds, cards_count}
use Rattle.table_model.proofs.parts.Cards.{card_weight, cards_weigh, without_weighs}
use Rattle.table_model.proofs.questions.Replaced.{Replaces, replaces, replaces_none, wait_weight}

slot_put : (t : Chains) (f : Option ℕ) (old o : Option Hashed) (slot : ℕ) → slot_outcome t f old ≡ put slot o → (f ≡ Some slot) × (old ≡ o)
slot_put t None old o slot h = absurd (cc)
slot_put t (Some s) old o slot h = (cc, cc)

slot_full : (t : Chains) (f : Option ℕ) (old : Option Hashed) (owned held : ℕ) → slot_outcome t f old ≡ full owned held → (f ≡ None) × (length t.slots.used ≡ owned) × (0 ≡ held)
slot_full t None old owned held h = (refl, cc, cc)
slot_full t (Some s) old owned held h = absurd (cc)

slot_not_taken : (t : Chains) (f : Option ℕ) (old : Option Hashed) (name : ℕ) → slot_outcome t f old ≡ taken name → ⊥
slot_not_taken t None old name h = absurd (cc)
slot_not_taken t (Some s) old name h = absurd (cc)

-- what a card that was put shows
pub tried_put : (t : Chains) (k old o : Option Hashed) (slot : ℕ) → tried t k old ≡ put slot o → (k ≡ None) × (free_slot t.slots ≡ Some slot) × (old ≡ o)
tried_put t None old o slot h = let parts = slot_put t (free_slot t.slots) old o slot h in (refl, parts.0, parts.1)
tried_put t (Some k) old o slot h = absurd (cc)

tried_taken : (t : Chains) (k old : Option Hashed) (name : ℕ) → tried t k old ≡ taken name → is_some k ≡ true
tried_taken t None old name h = absurd (slot_not_taken t (free_slot t.slots) old name h)
tried_taken t (Some k) old name h = refl

tried_full : (t : Chains) (k old : Option Hashed) (owned held : ℕ) → tried t k old ≡ full owned held → (k ≡ None) × (free_slot t.slots ≡ None) × (length t.slots.used ≡ owned) × (0 ≡ held)
tried_full t None old owned held h = let parts = slot_full t (free_slot t.slots) old owned held h in (refl, parts.0, parts.1, parts.2)
tried_full t (Some k) old owned held h = absurd (cc)

module _ (c : Chains) (flat : Flat) (m : ChainsMean c flat) where
  -- a slot is found exactly where the list has one
  pub room_found : (slot : ℕ) → free_slot c.slots ≡ Some slot → has_room flat ≡ true
  room_found slot h =
      let is = free_is c.slots slot h in
      lt-ltb (slots_used flat.sockets) flat.header.shape.slots
      (omega (arith, room_left c.rows c.slots.used (holds c flat m).alone slot is.0 is.1, m.cards (λ (x : Card). 1), cards_count flat.groups flat.sockets, m.slots))

  -- and none where it has none
  pub room_none : free_slot c.slots ≡ None → has_room flat ≡ false
  room_none h =
      le-ltb (slots_used flat.sockets) flat.header.shape.slots
      (omega (arith, no_room c.rows c.slots.used (holds c flat m).alone (none_free c.slots h), m.cards (λ (x : Card). 1), cards_count flat.groups flat.sockets, m.slots))

  module _ (card : Card) (moment : ℕ) (rule : Replace) where
    -- who keeps the four-tuple
    abbrev pub keeper : Option Hashed
    keeper = find (keeps card moment rule) (row_at c (home_in c card))

    -- the answers of inserting
    pub insert_put : (slot : ℕ) (old : Option Hashed) → insert_outcome c card moment rule ≡ put slot old → (is_some keeper ≡ false) × (has_room flat ≡ true)
    insert_put slot old h =
        let parts = tried_put c keeper (find (waits card) (row_at c (home_in c card))) old slot h in
        (ap is_some parts.0, room_found slot parts.1)

    -- it is kept by somebody
    pub insert_taken : (name : ℕ) → insert_outcome c card moment rule ≡ taken name → is_some keeper ≡ true
    insert_taken name h = tried_taken c keeper (find (waits card) (row_at c (home_in c card))) name h

    -- no slot is free for it
    pub insert_full : (owned held : ℕ) → insert_outcome c card moment rule ≡ full owned held → (is_some keeper ≡ false) × (has_room flat ≡ false) × (owned ≡ flat.header.shape.slots) × (held ≡ 0)
    insert_full owned held h =
        let parts = tried_full c keeper (find (waits card) (row_at c (home_in c card))) owned held h in
        (ap is_some parts.0, room_none parts.1, sym parts.2 ∙ m.slots, sym parts.3)

-- a card comes into a chain, in the slot that was found
pub added_holds : (c : Chains) (flat : Flat) (card : Card) (slot : ℕ) → ChainsMean c flat → IsShape flat.header → free_slot c.slots ≡ Some slot
    → Holds (placed c (home_in c card) slot card) flat.header.shape flat.header.seed (λ f. weighing flat f + f card)
added_holds c flat card slot m shape free =
    let is = free_is c.slots slot free in
    let below : home_in c card < chain_count c.shape = home_below c.shape c.seed card (subst (λ (s : Shape). 1 ≤ s.hash) (sym m.shape) shape.hash) (subst (λ (s : Shape). 1 ≤ s.listen) (sym m.shape) shape.listen) in
    placed_holds c flat.header.shape flat.header.seed (weighing flat) (holds c flat m) card slot (λ f. weighing flat f + f card) (omega (arith, below, m.count)) is.0 is.1 (λ f. refl)

-- the list with these sockets
abbrev pub with_sockets : Flat → List Socket → Flat
with_sockets flat sockets = record flat { sockets = sockets }

same_not : (t b : Bool) → b ≡ false → (t && b) ≡ false
same_not true b h = h
same_not false b h = refl

found_under : {A : Type 0} (b : Bool) (x y : A) (o : Option A) → b ≡ false → o ≡ Some y → cond b (Some x) o ≡ Some y
found_under true x y o e h = absurd (cc)
found_under false x y o e h = h

module _ (c : Chains) (flat : Flat) (m : ChainsMean c flat) (shape : IsShape flat.header) (sound : IsSound flat) (a : Owner) (slot : ℕ) (free : free_slot c.slots ≡ Some slot) where
  abbrev b : ℕ
  b = home_in c (claim_card a)

  abbrev row : List Hashed
  row = row_at c b

  -- the chains with the card, before anything is gone
  abbrev pub after_put : Chains
  after_put = placed c b slot (claim_card a)

  -- the card is there, and nothing is gone yet
  pub held : Holds after_put flat.header.shape flat.header.seed (λ f. weighing flat f + f (claim_card a))
  held = added_holds c flat (claim_card a) slot m shape free

  -- its chain is one of them
  pub inside : b < length c.rows
  inside = omega (arith, home_below c.shape c.seed (claim_card a) (subst (λ (s : Shape). 1 ≤ s.hash) (sym m.shape) shape.hash) (subst (λ (s : Shape). 1 ≤ s.listen) (sym m.shape) shape.listen), m.count)

  -- what it replaces is found as before
  pub still_found : (x : Hashed) → find (waits (claim_card a)) row ≡ Some x → find (waits (claim_card a)) (row_at after_put b) ≡ Some x
  still_found x h =
      let new : Hashed = record { slot = slot; card = claim_card a } in
      subst (λ (r : List Hashed). find (waits (claim_card a)) r ≡ Some x) (sym (get_or-set_same c.rows b (new ∷ row) [] inside))
      (found_under (waits (claim_card a) new) new x (find (waits (claim_card a)) row) (same_not (same_cards (claim_card a) (claim_card a)) _ (claim_awake a.state)) h)

  module _ (sockets : List Socket) (more : (f : Card → ℕ) → total (card_weight flat.groups f) sockets ≡ total (card_weight flat.groups f) (without_waiting a flat.sockets) + f (claim_card a)) where
    hashed_none : find (waits (claim_card a)) row ≡ None → ChainsMean after_put (with_sockets flat sockets)
    hashed_none e =
        means after_put (with_sockets flat sockets)
        (weighs_same after_put flat.header.shape flat.header.seed (λ f. weighing flat f + f (claim_card a)) (weighing (with_sockets flat sockets))
        (λ f. omega (arith, cards_weigh flat.groups f sockets, more f, ap (λ (xs : List Socket). total (card_weight flat.groups f) xs) (replaces_none c flat a m sound e), cards_weigh flat.groups f flat.sockets)) held)

    hashed_some : (x : Hashed) → find (waits (claim_card a)) row ≡ Some x → ChainsMean (without_replaced after_put b (Some x)) (with_sockets flat sockets)
    hashed_some x h =
        let r = replaces c flat a m sound x h in
        let rep : Replaces flat a x r.0 = r.1 in
        means (without_replaced after_put b (Some x)) (with_sockets flat sockets)
        (unhashed_holds after_put flat.header.shape flat.header.seed (λ f. weighing flat f + f (claim_card a)) held b (waits (claim_card a)) x (weighing (with_sockets flat sockets)) (still_found x h)
        (λ f. omega (
          arith,
          cards_weigh flat.groups f sockets,
          more f,
          cards_weigh flat.groups f flat.sockets,
          ap (λ (xs : List Socket). total (card_weight flat.groups f) xs) rep.dropped,
          without_weighs (card_weight flat.groups f) x.card.name r.0 flat.sockets rep.named,
          wait_weight f r.0.owner.state r.0.owner (λ kind. extra_as kind flat.groups r.0) rep.waits_there,
          rep.card f,
        )))

    by_old : (old : Option Hashed) → find (waits (claim_card a)) row ≡ old → ChainsMean (without_replaced after_put b old) (with_sockets flat sockets)
    by_old None e = hashed_none e
    by_old (Some x) e = hashed_some x e

-- the card of a full socket or a request is inserted, and the TIME_WAIT of its four-tuple is gone
pub inserted : (c : Chains) (flat : Flat) (a : Owner) (moment : ℕ) (rule : Replace) (slot : ℕ) (old : Option Hashed) (sockets : List Socket)
    → ChainsMean c flat → IsShape flat.header → IsSound flat → insert_outcome c (claim_card a) moment rule ≡ put slot old
    → ((f : Card → ℕ) → total (card_weight flat.groups f) sockets ≡ total (card_weight flat.groups f) (without_waiting a flat.sockets) + f (claim_card a))
    → ChainsMean (hashed c (claim_card a) (put slot old)) (record flat { sockets = sockets })
inserted c flat a moment rule slot old sockets m shape sound is more =
    let parts = tried_put c (keeper c flat m (claim_card a) moment rule) (find (waits (claim_card a)) (row_at c (home_in c (claim_card a)))) old slot is in
    by_old c flat m shape sound a slot parts.1 sockets more old parts.2
