-- Requests that hand over to their sockets, as deeds.
use Rattle.std.proofs.Common.{◌≡◌, ℕ, ◌+◌, true, None, Some, Result, Ok, Err, refl, sym, ap, ◌∙◌}
use Rattle.sock_card.specs.declared.card.Card.{Card}
use Rattle.sock_card.specs.declared.card.Kind.{Kind}
use Rattle.sock_card.specs.declared.card.Kind.TheVariants as kinds
use Rattle.sock_card.specs.Tuples.{tuple_of}
use Rattle.sock_card.proofs.Tuples.{PartsAgree, parts_agree}
use Rattle.chain_book.specs.Chains.{Chains, Outcome, put, taken, full, add_outcome, hashed, unhashed}
use Rattle.chain_book.specs.Homes.{home, home_as, tuple_home}
use Rattle.chain_book.specs.Tuples.{same_cards}
use Rattle.chain_book.specs.declared.shape.Shape.{Shape}
use Rattle.table_rule.specs.Plays.{unlocking}
use Rattle.table_rule.specs.Sole.{IsNow}
use Rattle.table_rule.specs.declared.view.View.{View}
use Rattle.table_rule.specs.declared.view.Layout.{Layout}
use Rattle.sock_slots.specs.declared.fresh.Full.{Full}
use Rattle.nulls_chain.specs.Changes.{OtherPlacesStay, PlacesStay}
use Rattle.nulls_chain.specs.declared.keeping.Place.{Place}
use Rattle.established.specs.Comings as comings
use Rattle.established.specs.Handovers as spec
use Rattle.established.specs.Leavings as leavings
use Rattle.established.specs.Alone.{chains_of, next_after, yielded, AddsAlone, HandsAlone, IsAdded, WaitsAlone}
use Rattle.sock_ops.specs.Answers.{HandsOver}
use Rattle.sock_ops.proofs.Found.{IsTold}
use Rattle.sock_ops.proofs.Left.{side}
use Rattle.sock_ops.proofs.Comes.{adds_of, full_closed}
use Rattle.sock_ops.proofs.ChainGoes.{waits_of}

-- a socket belongs in the chain of its request
pub one_home : (shape : Shape) (seed : ℕ) (a b : Card) → a.kind ≡ kinds.Full → b.kind ≡ kinds.Request → same_cards a b ≡ true → home shape seed a ≡ home shape seed b
unfolding home
one_home shape seed a b is_full pending same =
    let t : PartsAgree (tuple_of a) (tuple_of b) = parts_agree (tuple_of a) (tuple_of b) same in
    ap (λ (k : Kind). home_as k shape seed a) is_full
    ∙ (λ i. tuple_home shape seed (t.local i) (t.lport i) (t.remote i) (t.rport i) (t.net i))
    ∙ sym (ap (λ (k : Kind). home_as k shape seed b) pending)

-- the slot from which the next search begins
abbrev pub next_after_hand : ℕ → Result Place (Place × Full) → ℕ
next_after_hand from (Ok child) = child.slot + 1
next_after_hand from (Err e) = from

module _ (layout : Layout) (from : ℕ) (place : Place) (card : Card) (v w : View) where
  abbrev before : Chains
  before = chains_of layout from v.book.closed

  -- what a pass that is alone leaves, by the outcome
  abbrev LeavesBy : Outcome → Result Place Full → Chains → Type 0
  LeavesBy x r left = IsAdded place.bucket card x r × (chains_of layout (next_after x from) w.book.closed ≡ left) × IsNow w

  came_by : (x : Outcome) (child : Place) → LeavesBy x (Ok child) (yielded (hashed before card x) place x)
      → LeavesBy x (Ok child) (unhashed (hashed before card x) (record { bucket = place.bucket; slot = place.slot }))
  came_by (put slot None) child h = h
  came_by (put slot (Some old)) child h = absurd h.0
  came_by (taken name) child h = absurd h.0
  came_by (full owned held) child h = absurd h.0

  none_by : (x : Outcome) (f : Full) → LeavesBy x (Err f) (yielded (hashed before card x) place x) → LeavesBy x (Err f) (hashed before card x)
  none_by (put slot None) f h = absurd h.0
  none_by (put slot (Some old)) f h = absurd h.0
  none_by (taken name) f h = absurd h.0
  none_by (full owned held) f h = h

  came_alone : (child : Place) → HandsAlone layout from place card (Ok child) v w → WaitsAlone layout from place card (Ok child) v w
  came_alone child alone now = came_by (add_outcome before) child (alone now)

  none_alone : (e : Place × Full) → HandsAlone layout from place card (Err e) v w → AddsAlone layout from place.bucket card (Err e.1) v w
  none_alone e alone now = none_by (add_outcome before) e.1 (alone now)

  came_so : (child : Place) → spec.HandsOver layout from place card (Ok child) v w → leavings.Waits layout from place card (Ok child) v w
  came_so child h = record {
    chain = h.chain;
    seen = h.seen;
    between = h.hands.between;
    comes = h.hands.comes;
    left = h.left;
    departs = h.hands.yields;
    instant = h.instant;
    unlocked = h.unlocked;
  }

  none_so : (e : Place × Full) → spec.HandsOver layout from place card (Err e) v w → comings.Adds layout from place.bucket card (Err e.1) v w
  none_so e h = record {
    chain = h.chain;
    seen = h.seen;
    left = h.hands.between;
    comes = h.hands.comes;
    instant = h.instant;
    unlocked = h.unlocked ∙ ap (λ (y : View). unlocking y h.instant) h.hands.yields.1;
  }

  pub hands_of : (r : Result Place (Place × Full)) → IsTold place.card → home layout.shape layout.seed card ≡ place.bucket → spec.HandsOver layout from place card r v w → HandsAlone layout from place card r v w
      → OtherPlacesStay place v w → (r_stays : (e : Place × Full) → r ≡ Err e → PlacesStay v w) → HandsOver place card r (side layout v from) (side layout w (next_after_hand from r))
  hands_of (Ok child) told at h alone stay all =
      waits_of layout from place card (Ok child) v w told at (came_so child h) (came_alone child alone) stay
  hands_of (Err e) told at h alone stay all =
      (h.hands.yields.0, adds_of layout from place.bucket card (Err e.1) v w at (none_so e h) (none_alone e alone) (all e refl))

  -- who finds no slot changes nothing
  pub none_closed : (e : Place × Full) → spec.HandsOver layout from place card (Err e) v w → w.book.closed ≡ v.book.closed
  none_closed e h = full_closed layout from place.bucket card e.1 v w (none_so e h)
