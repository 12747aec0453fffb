-- At each moment of a handover the request stands or its socket does.
use Rattle.std.proofs.Common.{◌≡◌, ℕ, ◌<◌, ◌≤◌, List, [], ◌∷◌, ◌++◌, ◌⊎◌, inl, inr, ⊎_elim, length, Ok, slice_index, sym, refl, ap, ◌∙◌, subst, arith}
use mathlib.Core.Logic.{dite}
use native.Mathlib.Decide.{dec_le}
use mathlib.Core.Option.{some, some-injective, some-ne-none}
use lib.ListN.{get_elem?}
use Rattle.atomic_table.specs.Table.{State}
use Rattle.atomic_table.proofs.Lists.{at_map, at_last, at_longer}
use Rattle.sock_card.specs.declared.card.Card.{Card}
use Rattle.table_rule.specs.Owners.{IsPlace, HasChange}
use Rattle.table_rule.specs.Rule.{Holds, book_part}
use Rattle.table_rule.specs.Standing.{StandsIn, StandsBy, AsOf}
use Rattle.table_rule.specs.declared.view.View.{View}
use Rattle.table_rule.specs.declared.view.BookView.{BookView}
use Rattle.table_rule.specs.declared.view.Layout.{Layout}
use Rattle.table_rule.specs.declared.view.Change.{Change}
use Rattle.table_rule.proofs.CardSteps.{at_end}
use Rattle.table_rule.proofs.Standing.{places_stand}
use Rattle.nulls_chain.specs.Changes.{IsPlacedBy}
use Rattle.nulls_chain.specs.declared.keeping.Place.{Place}
use Rattle.established.specs.Rows.{card_words}
use Rattle.established.specs.Handovers.{HandsOver, OneStands}

-- a change that a pass has in a state began below its clock
began_below : (layout : Layout) (s : State (Unit {0}) View) (k : ℕ) (x : View) → Holds layout s → get_elem? s.views k ≡ some x → (u : Change) → HasChange x.book u → u.begins < slice_index s.words 0
began_below layout s k x rule me u has =
    let o = rule.more.book in
    let at = at_map book_part s.views k x me in
    ⊎_elim
    (λ z. let t = o.closed k has.nth (book_part x) u at z in omega (arith, t.0, t.1))
    (λ z. (o.opened k has.nth (book_part x) u at z).0)
    has.is

-- a place of the later book was one when it had been closed, if no unhash came in between
place_as_of : (number : ℕ) (b later : BookView) (hash : Change) (n : ℕ) → AsOf number b later → get_elem? later.closed n ≡ some hash → hash.ends < number → IsPlace later hash → IsPlace b hash
place_as_of number b later hash n was there below p =
    let t = was.closed n hash there below in
    record {
      nth = t.0;
      there = t.1;
      is-hash = p.is-hash;
      stays = p.stays;
      last = λ u has unhash slot after. let d = was.begun u has unhash in p.last d.0 d.1 d.2 (d.3 ∙ slot) (omega (arith, after, d.4));
    }

module _ (layout : Layout) (from : ℕ) (request place : Place) (card : Card) (v w : View) (hash : Change) (h : HandsOver layout from request card (Ok place) v w) (new : IsPlacedBy (length v.book.closed) place w.book) (p : IsPlace v.book hash) (slot : hash.slot ≡ request.slot)
    (s : State (Unit {0}) View) (k : ℕ) (x : View) (rule : Holds layout s) (me : get_elem? s.views k ≡ some x) (was : AsOf (slice_index s.words 0) x.book w.book) (below : hash.ends < slice_index s.words 0) where
  abbrev now : ℕ
  now = slice_index s.words 0

  -- the socket's hash, and the request's unhash
  abbrev came : Change
  came = let a = h.hands.comes.comes.change in record { kind = 1; bucket = request.bucket; slot = place.slot; card = card_words card; begins = a.0; ends = a.1 }

  abbrev gone : Change
  gone = let a = h.hands.yields.change in record { kind = 0; bucket = request.bucket; slot = request.slot; card = card_words request.card; begins = a.0; ends = a.1 }

  closed : w.book.closed ≡ (v.book.closed ++ came ∷ []) ++ gone ∷ []
  closed = ap (λ (y : View). y.book.closed) h.unlocked ∙ (h.hands.yields.change.2.3 ∙ ap (λ (l : List Change). l ++ gone ∷ []) h.hands.comes.comes.change.2.3)

  opened : w.book.opened ≡ []
  opened = ap (λ (y : View). y.book.opened) h.unlocked ∙ h.hands.yields.change.2.4.2

  in_order : came.ends < gone.begins
  in_order = omega (arith, h.hands.comes.comes.change.2.2, h.hands.yields.change.2.0)

  kept : (n : ℕ) (c : Change) → get_elem? v.book.closed n ≡ some c → get_elem? w.book.closed n ≡ some c
  kept n c there = ap (λ (l : List Change). get_elem? l n) closed ∙ at_longer (v.book.closed ++ came ∷ []) (gone ∷ []) n c (at_longer v.book.closed (came ∷ []) n c there)

  -- the request stands until its unhash begins
  request_stands : now ≤ gone.begins → StandsBy layout s hash
  request_stands early =
      let t = was.closed p.nth hash (kept p.nth hash p.there) below in
      places_stand layout s k x hash rule me record {
        nth = t.0;
        there = t.1;
        is-hash = p.is-hash;
        stays = p.stays;
        last = λ u has unhash at after.
            let d = was.begun u has unhash in
            ⊎_elim
            (λ z. ⊎_elim
            (λ y. ⊎_elim
            (λ r. p.last d.0 (record { nth = d.1.nth; is = inl r.0 }) d.2 (d.3 ∙ at) (omega (arith, after, d.4)))
            (λ r. omega (arith, ap (λ (c : Change). c.kind) r.0, d.2))
            (at_end v.book.closed came d.0 d.1.nth y.0))
            (λ y. omega (arith, ap (λ (c : Change). c.begins) y.0, d.4, began_below layout s k x rule me u has, early))
            (at_end (v.book.closed ++ came ∷ []) gone d.0 d.1.nth (ap (λ (l : List Change). get_elem? l d.1.nth) (sym closed) ∙ z)))
            (λ z. some-ne-none d.0 (sym (ap (λ (l : List Change). get_elem? l d.1.nth) (sym opened) ∙ z)))
            d.1.is;
      }

  -- and the socket from the end of its hash on
  socket_stands : came.ends < now → StandsIn layout (λ q. slice_index s.words q) place.bucket place.slot (card_words place.card)
  socket_stands late =
      let n : ℕ = length v.book.closed in
      let c = new.0 in
      let is : came ≡ c = some-injective came c (sym (ap (λ (l : List Change). get_elem? l n) closed ∙ at_longer (v.book.closed ++ came ∷ []) (gone ∷ []) n came (at_last v.book.closed came n refl)) ∙ new.1) in
      let stands = places_stand layout s k x c rule me (place_as_of now x.book w.book c n was new.1 (omega (arith, late, ap (λ (y : Change). y.ends) is)) new.5) in
      subst (λ (ws : List ℕ). StandsIn layout (λ q. slice_index s.words q) place.bucket place.slot ws) new.4
      (subst (λ (i : ℕ). StandsIn layout (λ q. slice_index s.words q) place.bucket i c.card) new.3
      (subst (λ (b : ℕ). StandsIn layout (λ q. slice_index s.words q) b c.slot c.card) new.2 stands))

  one : StandsBy layout s hash ⊎ StandsIn layout (λ q. slice_index s.words q) place.bucket place.slot (card_words place.card)
  one = dite (dec_le now gone.begins) (λ early. inl (request_stands early)) (λ late. inr (socket_stands (omega (arith, late, in_order))))

pub one_stands : OneStands
one_stands layout from request place card v w hash h new p slot s k x rule me was below = one layout from request place card v w hash h new p slot s k x rule me was below
