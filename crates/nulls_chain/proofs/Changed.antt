-- What the calls that change chains show.
use Rattle.std.proofs.Common.{map, ◌≡◌, ◌≢◌, ℕ, ◌%◌, ◌<◌, List, [], ◌∷◌, ◌++◌, ◌⊎◌, inl, inr, ⊎_elim, Option, None, Some, true, false, cond, Bool, eqb, eq-eqb, ne_eqb, ◌/◌, sym, refl, ap, ◌∙◌, arith, subst}
use mathlib.Core.Logic.{dite}
use native.Mathlib.Decide.{ℕ_discrete}
use Rattle.list_words.proofs.EachLemmas.{each_weaken}
use Rattle.list_words.proofs.TotalLemmas.{total-append}
use Rattle.list_words.specs.Lists.{Each, total}
use Rattle.table_rule.specs.Lists.{times, stands, slots_of}
use Rattle.table_rule.specs.CardsOk.{tuple, bears, claims, has_tuple, may_claim, all_claims, beside, Differs, MayLight}
use Rattle.table_rule.specs.Plays.{advancing, beginning, dropping_beginning}
use Rattle.nulls_chain.specs.Changes.{going, Apart, IsAlone, HasNoTwin, Stands, Adds, Rest, TwoDrawn}
use Rattle.bucket_locks.specs.Locks.{IsAt}
use Rattle.sock_slots.specs.Claims.{IsFull, sight_by}
use Rattle.sock_slots.specs.declared.fresh.Full.{Full}
use Rattle.table_rule.specs.Calls.{seen_of}
use Rattle.table_rule.specs.declared.view.View.{View}
use Rattle.table_rule.specs.declared.view.ChainView.{ChainView}
use Rattle.table_rule.specs.declared.view.Layout.{Layout}
use Rattle.table_rule.specs.declared.view.Seen.{Seen}
use Rattle.table_rule.specs.declared.view.Change.{Change}
use Rattle.table_rule.specs.Owners.{IsPlace}
use Rattle.atomic_table.proofs.Lists.{at_longer}
use Rattle.table_rule.proofs.CardSteps.{at_end, bears_few, full_has}
use Rattle.sock_card.specs.declared.words.CardWords.{CardWords}
use Rattle.table_rule.proofs.Lists.{times-here, times-append, slots-append}
use mathlib.Core.Option.{some, some-injective, some-ne-none}
use lib.ListN.{get_elem?}
use Rattle.table_rule.specs.Words.{bucket_count, home_of}

stands_there : (front : List Seen) (s : Seen) (back : List Seen) (slot : ℕ) → s.slot ≡ slot → 0 < stands slot (front ++ s ∷ back)
stands_there front s back slot is = omega (arith, ap (times slot) (slots-append front (s ∷ back)), times-append slot (slots_of front) (s.slot ∷ slots_of back), ap (λ (k : ℕ). times slot (k ∷ slots_of back)) is, times-here slot (slots_of back))

pub stands_in : (layout : Layout) (before : Option ℕ) (slot : ℕ) (v : View) → Stands layout before slot v → 0 < stands slot v.chain.walked
stands_in layout None slot v h = subst (λ (l : List Seen). 0 < stands slot l) (sym h.3) (stands_there [] h.0 h.1 slot h.2)
stands_in layout (Some before) slot v h = let t = h.1 in subst (λ (l : List Seen). 0 < stands slot l) (sym t.6) (stands_there (t.0 ++ t.1 ∷ []) t.2 t.3 slot t.5)

-- a card that is alone has no twin
pub no_twin : (card : CardWords) (xs : List Seen) → IsAlone card xs → HasNoTwin card xs
no_twin card xs alone full =
    each_weaken (Apart claims card.ends card.ports) (Apart bears card.ends card.ports) xs
    (λ s d. record { ends = d.ends; ports = d.ports; has-ends = d.has-ends; has-ports = d.has-ports; apart = omega (arith, bears_few (tuple card.ends card.ports) d.ends d.ports, d.apart) })
    (alone (full_has card.ports full))

pub may_light : (slot : ℕ) (card : CardWords) (xs : List Seen) → HasNoTwin card xs → MayLight slot (seen_of slot card ∷ xs)
may_light slot card xs twin = record {
  nth = 0;
  seen = seen_of slot card;
  there = refl;
  slot = refl;
  a = card.ends;
  b = card.ports;
  has-a = refl;
  has-b = refl;
  alone = λ full. (
    record { ends = card.ends; ports = card.ports; has-ends = refl; has-ports = refl; apart = λ ne. absurd (ne refl) },
    each_weaken (Apart bears card.ends card.ports) (Differs slot card.ends card.ports) xs (λ s d. record { ends = d.ends; ports = d.ports; has-ends = d.has-ends; has-ports = d.has-ports; apart = λ ne. d.apart }) (twin full),
  );
}

not-both : true ≡ false → ⊥
not-both e = omega (arith, ap {B = ℕ} (λ (b : Bool). cond b 1 0) e)

no_tuple : (b : ℕ) → ((b % 16 ≡ 1) ⊎ (b % 16 ≡ 4) → ⊥) → has_tuple b ≡ false
no_tuple b other = ap (λ (k : Bool). cond k true (eqb (b % 16) 4)) (ne_eqb (b % 16) 1 (λ e. other (inl e))) ∙ ne_eqb (b % 16) 4 (λ e. other (inr e))

-- a card of another kind than a full socket's and a request's is kept from no chain
pub kind_alone : (card : CardWords) (xs : List Seen) → ((card.ports % 16 ≡ 1) ⊎ (card.ports % 16 ≡ 4) → ⊥) → IsAlone card xs
kind_alone card xs other h = absurd (not-both (sym h ∙ no_tuple card.ports other))

-- a card of another four-tuple, or of another kind than a full socket's and a request's
pub claims_apart : (t a b : ℕ) → ((b % 16 ≡ 1) ⊎ (b % 16 ≡ 4) → tuple a b ≢ t) → claims t a b ≡ 0
claims_apart t a b far = dite (ℕ_discrete (tuple a b) t)
    (λ q. ap (λ (k : Bool). cond k (cond (eqb (tuple a b) t) 1 0) 0) (no_tuple b (λ k. far k q)))
    (λ n. ap (λ (k : Bool). cond (has_tuple b) (cond k 1 0) 0) (ne_eqb (tuple a b) t n) ∙ none (has_tuple b))
  where
    none : (k : Bool) → ◌≡◌ {A = ℕ} (cond k 0 0) 0
    none true = refl
    none false = refl

one_apart : (a b : ℕ) (s : Seen) → Apart claims a b s → may_claim (tuple a b) s.words ≡ 0
one_apart a b s d = go s.words refl
  where
    at : (ws : List ℕ) → s.words ≡ ws → (k x : ℕ) → get_elem? s.words k ≡ some x → get_elem? ws k ≡ some x
    at ws e k x h = ap (λ (l : List ℕ). get_elem? l k) (sym e) ∙ h

    go : (ws : List ℕ) → s.words ≡ ws → may_claim (tuple a b) ws ≡ 0
    go [] e = absurd (some-ne-none d.ends (sym (at [] e 0 d.ends d.has-ends)))
    go (x ∷ []) e = absurd (some-ne-none d.ports (sym (at (x ∷ []) e 1 d.ports d.has-ports)))
    go (x ∷ y ∷ ws) e = ap (λ (k : ℕ). claims (tuple a b) k y) (some-injective x d.ends (at (x ∷ y ∷ ws) e 0 d.ends d.has-ends)) ∙ (ap (claims (tuple a b) d.ends) (some-injective y d.ports (at (x ∷ y ∷ ws) e 1 d.ports d.has-ports)) ∙ d.apart)

all_apart : (a b : ℕ) (xs : List Seen) → Each (Apart claims a b) xs → all_claims (tuple a b) xs ≡ 0
all_apart a b [] h = refl
all_apart a b (x ∷ xs) h = omega (arith, one_apart a b x h.0, all_apart a b xs h.1)

-- a card that is alone comes beside none of its four-tuple
pub beside_none : (slot : ℕ) (card : CardWords) (xs : List Seen) → IsAlone card xs → beside (seen_of slot card ∷ xs) ≡ 0
beside_none slot card xs alone = go (has_tuple card.ports) refl
  where
    there : ℕ
    there = all_claims (tuple card.ends card.ports) xs

    go : (k : Bool) → has_tuple card.ports ≡ k → beside (seen_of slot card ∷ xs) ≡ 0
    go false q = ap (λ (k : Bool). cond k there 0) q
    go true q = ap (λ (k : Bool). cond k there 0) q ∙ all_apart card.ends card.ports xs (alone q)

-- a link that was loaded leads on, or is the end
pub leads_on : (v : View) (r : ℕ) → r % 2 ≡ 0 → (advancing v r).chain ≡ going v.chain (record { slot = r / 2; words = [] } ∷ []) 0
leads_on v r e = λ k. going v.chain (ap (λ (b : Bool). cond b (record { slot = r / 2; words = [] } ∷ []) []) (eq-eqb (r % 2) 0 e) k) (e k)

-- where a walk stands once it has gone on
pub at_even : (layout : Layout) (bucket r : ℕ) (v w : View) (card : CardWords) → v.chain.locked ≡ bucket ∷ [] → bucket < bucket_count layout → r % 2 ≡ 0 → r / 2 < layout.shape.slots → w.chain ≡ going v.chain (seen_of (r / 2) card ∷ []) 0 → IsAt layout (record { bucket = bucket; started = true; link = r }) w
at_even layout bucket r v w card had near even inside is = (
  ap (λ (c : ChainView). c.locked) is ∙ had,
  near,
  (λ e. absurd (not-both e)),
  (λ _. (even ∙ sym (ap (λ (c : ChainView). c.met) is), (λ _. (inside, (seen_of (r / 2) card, refl, refl, ap (λ (c : ChainView). c.ahead) is))), (λ odd. absurd (omega (arith, even, odd))))),
)

-- the first of a list is at home
pub home_first : (layout : Layout) (b : ℕ) (x s : Seen) (xs rest : List Seen) → x ∷ xs ≡ s ∷ rest → home_of layout x.words ≡ b → home_of layout s.words ≡ b
home_first layout b x s xs rest e h = subst (λ (y : Seen). home_of layout y.words ≡ b) (some-injective x s (ap (λ (l : List Seen). get_elem? l 0) e)) h

module _ (v w : View) (h : Change) (opened : w.book.opened ≡ []) where
  -- a place stays one, where the list of closed changes is longer by no unhash of its slot
  still_place : ((n : ℕ) → get_elem? v.book.closed n ≡ some h → get_elem? w.book.closed n ≡ some h)
      → ((u : Change) (n : ℕ) → get_elem? w.book.closed n ≡ some u → (get_elem? v.book.closed n ≡ some u) ⊎ (u.kind ≡ 0 → u.slot ≢ h.slot))
      → IsPlace v.book h → IsPlace w.book h
  still_place stays new p = record {
    nth = p.nth;
    there = stays p.nth p.there;
    is-hash = p.is-hash;
    stays = p.stays;
    last = λ u has unhash slot after. ⊎_elim
        (λ z. ⊎_elim (λ y. p.last u record { nth = has.nth; is = inl y } unhash slot after) (λ far. far unhash slot) (new u has.nth z))
        (λ z. some-ne-none u (sym (ap (λ (l : List Change). get_elem? l has.nth) (sym opened) ∙ z))) has.is;
  }

pub places_stay : (v w : View) (kind bucket slot : ℕ) (card : List ℕ) (hash : Change) → (kind ≡ 0 → hash.slot ≢ slot) → Adds v w kind bucket slot card → IsPlace v.book hash → IsPlace w.book hash
places_stay v w kind bucket slot card hash far a p =
    let c : Change = record { kind = kind; bucket = bucket; slot = slot; card = card; begins = a.0; ends = a.1 } in
    still_place v w hash a.2.4.2
    (λ n there. ap (λ (l : List Change). get_elem? l n) a.2.3 ∙ at_longer v.book.closed (c ∷ []) n hash there)
    (λ u n there. ⊎_elim
    (λ y. inl y.0)
    (λ y. inr (λ unhash at. far (ap (λ (x : Change). x.kind) y.0 ∙ unhash) (sym at ∙ ap (λ (x : Change). x.slot) (sym y.0))))
    (at_end v.book.closed c u n (ap (λ (l : List Change). get_elem? l n) (sym a.2.3) ∙ there)))
    p

pub places_kept : (v w : View) (hash : Change) → w.book.closed ≡ v.book.closed → w.book.opened ≡ [] → IsPlace v.book hash → IsPlace w.book hash
places_kept v w hash closed opened p =
    still_place v w hash opened
    (λ n there. ap (λ (l : List Change). get_elem? l n) closed ∙ there)
    (λ u n there. inl (ap (λ (l : List Change). get_elem? l n) (sym closed) ∙ there))
    p

pub two_drawn : (v w : View) (kind bucket slot : ℕ) (card : List ℕ) → v.book.opened ≡ [] → Adds v w kind bucket slot card → Rest v w → TwoDrawn v w
two_drawn v w kind bucket slot card idle a rest more share =
    let c : Change = record { kind = kind; bucket = bucket; slot = slot; card = card; begins = a.0; ends = a.1 } in
    let one : Change → ℕ = λ _. 1 in
    let two : Change → ℕ = λ _. 2 in omega (
      arith,
      share,
      ap (total two) a.2.3,
      total-append two v.book.closed (c ∷ []),
      ap (total one) a.2.4.2,
      ap (total one) idle,
      ap (total (λ (_ : ℕ). 1)) rest.2,
      rest.0,
    )

pub one_lost : (layout : Layout) (v u w : View) (b : ℕ) (f : Full) → v.book.opened ≡ [] → IsFull layout (beginning v b) u f → w ≡ dropping_beginning u → TwoDrawn v w
one_lost layout v u w b f idle full is more share =
    let tried = full.1 in
    let view : w ≡ dropping_beginning (record (beginning v b) { sights = (beginning v b).sights ++ map (sight_by (beginning v b)) tried.reads }) = is ∙ ap dropping_beginning tried.is in
    let one : Change → ℕ = λ _. 1 in
    let two : Change → ℕ = λ _. 2 in omega (
      arith,
      share,
      ap (λ (x : View). total two x.book.closed) view,
      ap (λ (x : View). total one x.book.opened) view,
      ap (total one) idle,
      ap (λ (x : View). total (λ (_ : ℕ). 1) x.book.lost) view,
      ap (λ (x : View). x.slot.parts) view,
    )
