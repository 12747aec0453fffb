-- What a survey shows for the changes that follow it.
use Rattle.std.proofs.Common.{◌==◌, ◌≡◌, ◌≢◌, ℕ, ◌+◌, ◌/◌, ◌%◌, ◌<◌, ◌≤◌, ◌^◌, List, [], ◌∷◌, Option, None, Some, cond, Bool, true, false, eq-eqb, ne_eqb, sym, refl, ap, ◌∙◌, arith, subst, find, ◌&&◌, ◌||◌, ⊎_elim, not, slice_index}
use mathlib.Core.Logic.{dite}
use native.Mathlib.Decide.{ℕ_discrete}
use lib.ListN.{get_elem?}
use Rattle.list_words.specs.Lists.{Each}
use Rattle.sock_card.specs.Words.{packed, unpacked, kind_at, number_of}
use Rattle.sock_card.specs.TimeWait.{is_time_wait_kind}
use Rattle.sock_card.specs.declared.card.Card.{Card}
use Rattle.sock_card.specs.declared.card.Kind.{Kind}
use Rattle.sock_card.specs.declared.card.Kind.TheVariants as kinds
use Rattle.sock_card.specs.declared.words.CardWords.{CardWords}
use Rattle.chain_book.specs.Tuples.{same_cards, claims_tuple, may_replace, keeps_from}
use Rattle.chain_book.specs.Chains.{keeps, waits}
use Rattle.chain_book.specs.declared.outcome.Hashed.{Hashed}
use Rattle.chain_book.specs.declared.outcome.Replace.{Replace}
use Rattle.table_rule.specs.Lists.{stands, slots_of}
use Rattle.table_rule.specs.CardsOk.{tuple, claims}
use Rattle.table_rule.specs.Plays.{card_in, PlacesListed, PlacesApart}
use Rattle.table_rule.specs.Words.{words_of}
use Rattle.table_rule.specs.Sole.{IsRead}
use Rattle.table_rule.specs.Owners.{time_waits, IsPlace}
use Rattle.table_rule.specs.declared.view.View.{View}
use Rattle.table_rule.specs.declared.view.Change.{Change}
use Rattle.table_rule.specs.declared.view.Seen.{Seen}
use Rattle.table_rule.proofs.Lists.{times-here, times-else}
use Rattle.nulls_chain.specs.Changes.{Apart, IsAlone}
use Rattle.nulls_chain.proofs.Changed.{claims_apart}
use Rattle.established.specs.Rows.{hashed_in, row_of, card_words, HasCard, IsIn}
use Rattle.established.specs.Surveys.{goes_out, Surveyed}
use Rattle.established.specs.declared.survey.Newcomer.{Newcomer}
use Rattle.established.specs.declared.survey.Sought.{Sought}
use Rattle.established.specs.declared.survey.Sought.TheVariants as seeks
use Rattle.established.specs.declared.survey.Survey.{Survey}

not-both : true ≡ false → ⊥
not-both e = omega (arith, ap {B = ℕ} (λ (b : Bool). cond b 1 0) e)

none-some : (x : Hashed) → None ≡ Some x → ⊥
none-some x q = subst (λ (o : Option Hashed). is-none o) q tt
  where
    is-none : Option Hashed → Type 0
    is-none None = Unit {0}
    is-none (Some z) = ⊥

pub some-is : (a b : Hashed) → Some a ≡ Some b → a ≡ b
some-is a b q = ap (λ (o : Option Hashed). from o) q
  where
    from : Option Hashed → Hashed
    from (Some z) = z
    from None = a

-- Where one stands

slot-is : (s : Seen) (x : Hashed) → hashed_in s ≡ x → s.slot ≡ x.slot
slot-is s x e = ap (λ (y : Hashed). y.slot) e

words-are : (s : Seen) (x : Hashed) → HasCard s → hashed_in s ≡ x → s.words ≡ card_words x.card
words-are s x h e = h.0.is
    ∙ (ap words_of (sym h.0.packs)
    ∙ ap card_words (ap (λ (l : List ℕ). (hashed_in (record { slot = s.slot; words = l })).card) (sym h.0.is) ∙ ap (λ (y : Hashed). y.card) e))

-- who was found stands in the list, and the list contains its card
pub found_in : (test : Hashed → Bool) (xs : List Seen) (x : Hashed) → find test (row_of xs) ≡ Some x → ((i : ℕ) → stands i xs ≤ 1) → Each HasCard xs
    → IsIn x xs × (test x ≡ true)
found_in test [] x e once cards = absurd (none-some x e)
found_in test (y ∷ ys) x e once cards = go (test (hashed_in y)) refl (λ e'. found_in test ys x e' fewer cards.1)
  where
    front : (i : ℕ) → y.slot ≡ i → stands i (y ∷ ys) ≡ 1 + stands i ys
    front i e = subst (λ (k : ℕ). stands k (y ∷ ys) ≡ 1 + stands k ys) e (times-here y.slot (slots_of ys))

    here : hashed_in y ≡ x → IsIn x (y ∷ ys)
    here is =
        let at = slot-is y x is in
        record {
          words = ap (λ (b : Bool). cond b y.words (card_in x.slot ys)) (eq-eqb y.slot x.slot at) ∙ words-are y x cards.0 is;
          listed = let z = front x.slot at in omega (arith, z);
        }

    there : IsIn x ys → IsIn x (y ∷ ys)
    there h =
        let apart : y.slot ≢ x.slot = λ at. (let z = front x.slot at in omega (arith, z, once x.slot, h.listed)) in
        record {
          words = ap (λ (b : Bool). cond b y.words (card_in x.slot ys)) (ne_eqb y.slot x.slot apart) ∙ h.words;
          listed = let z = times-else y.slot x.slot (slots_of ys) apart in omega (arith, z, h.listed);
        }

    fewer : (i : ℕ) → stands i ys ≤ 1
    fewer i = dite (ℕ_discrete y.slot i)
        (λ e. let z = front i e in omega (arith, z, once i))
        (λ ne. let z = times-else y.slot i (slots_of ys) ne in omega (arith, z, once i))

    go : (b : Bool) → test (hashed_in y) ≡ b → (find test (row_of ys) ≡ Some x → IsIn x ys × (test x ≡ true)) → IsIn x (y ∷ ys) × (test x ≡ true)
    go true q rest =
        let is = some-is (hashed_in y) x (sym (ap (λ (k : Bool). cond k (Some (hashed_in y)) (find test (row_of ys))) q) ∙ e) in
        (here is, ap test (sym is) ∙ q)
    go false q rest =
        let t = rest (sym (ap (λ (k : Bool). cond k (Some (hashed_in y)) (find test (row_of ys))) q) ∙ e) in
        (there t.0, t.1)

-- and so it does where a further one came to the front
pub in_behind : (x : Hashed) (new : Seen) (xs : List Seen) → stands new.slot xs ≡ 0 → IsIn x xs → IsIn x (new ∷ xs)
in_behind x new xs far h =
    let apart : new.slot ≢ x.slot = λ at. omega (arith, ap (λ (i : ℕ). stands i xs) at, far, h.listed) in
    record {
      words = ap (λ (b : Bool). cond b new.words (card_in x.slot xs)) (ne_eqb new.slot x.slot apart) ∙ h.words;
      listed = let z = times-else new.slot x.slot (slots_of xs) apart in omega (arith, z, h.listed);
    }

pub slot_below : (slots : ℕ) (i : ℕ) (xs : List Seen) → 0 < stands i xs → Each (λ (s : Seen). s.slot < slots) xs → i < slots
slot_below slots i [] h a = absurd (omega (arith, h))
slot_below slots i (x ∷ xs) h a = dite (ℕ_discrete x.slot i)
    (λ e. omega (arith, a.0, e))
    (λ ne. slot_below slots i xs (let z = times-else x.slot i (slots_of xs) ne in omega (arith, z, h)) a.1)

-- Who may come

find-none : (test : Hashed → Bool) (xs : List Seen) → find test (row_of xs) ≡ None → Each (λ (s : Seen). test (hashed_in s) ≡ false) xs
find-none test [] h = tt
find-none test (x ∷ xs) h = let t = go (test (hashed_in x)) refl in (t.0, find-none test xs t.1)
  where
    go : (b : Bool) → test (hashed_in x) ≡ b → (test (hashed_in x) ≡ false) × (find test (row_of xs) ≡ None)
    go true q = absurd (none-some (hashed_in x) (sym h ∙ ap (λ (k : Bool). cond k (Some (hashed_in x)) (find test (row_of xs))) q))
    go false q = (q, sym (ap (λ (k : Bool). cond k (Some (hashed_in x)) (find test (row_of xs))) q) ∙ h)

all-five : (p q r s t : Bool) → p ≡ true → q ≡ true → r ≡ true → s ≡ true → t ≡ true → p && q && r && s && t ≡ true
all-five p q r s t a b c d e = ap (λ (k : Bool). k && q && r && s && t) a ∙ (ap (λ (k : Bool). k && r && s && t) b ∙ (ap (λ (k : Bool). k && s && t) c ∙ (ap (λ (k : Bool). k && t) d ∙ e)))

module _ (card : Card) (moment : ℕ) (rule : Replace) (says : unpacked (packed card) ≡ card) (fits : (packed card).ports < 2 ^ 64) where
  -- a full card of the newcomer's four-tuple keeps it out, and so does a request's
  twin-keeps : (w : CardWords) → w.ports < 2 ^ 64 → (kind : ℕ) → w.ports % 16 ≡ kind → claims_tuple (kind_at kind) ≡ true → tuple w.ends w.ports ≡ tuple (packed card).ends (packed card).ports
      → keeps_from card moment rule (unpacked w) ≡ true
  twin-keeps w low kind at full q =
      let a = (packed card).ends in
      let b = (packed card).ports in
      let net : b / 16 % 256 ≡ w.ports / 16 % 256 = omega (arith, q) in
      let ends : a ≡ w.ends = omega (arith, q, low, fits) in
      let ports : b / 2 ^ 32 ≡ w.ports / 2 ^ 32 = omega (arith, q, low, fits) in
      let same : same_cards card (unpacked w) ≡ true = all-five
      _ _ _ _ _
      (eq-eqb card.net (w.ports / 2 ^ 4 % 2 ^ 8) (sym (ap (λ (c : Card). c.net) says) ∙ net))
      (eq-eqb card.local (w.ends / 2 ^ 32) (sym (ap (λ (c : Card). c.local) says) ∙ ap (λ (k : ℕ). k / 2 ^ 32) ends))
      (eq-eqb card.lport (w.ports / 2 ^ 48) (sym (ap (λ (c : Card). c.lport) says) ∙ omega (arith, ports)))
      (eq-eqb card.remote (w.ends % 2 ^ 32) (sym (ap (λ (c : Card). c.remote) says) ∙ ap (λ (k : ℕ). k % 2 ^ 32) ends))
      (eq-eqb card.rport (w.ports / 2 ^ 32 % 2 ^ 16) (sym (ap (λ (c : Card). c.rport) says) ∙ ap (λ (k : ℕ). k % 2 ^ 16) ports)) in
      ap (λ (k : Bool). k && (claims_tuple (unpacked w).kind || is_time_wait_kind (unpacked w).kind && not (may_replace rule moment (unpacked w)))) same
      ∙ (ap (λ (n : ℕ). claims_tuple (kind_at n) || is_time_wait_kind (kind_at n) && not (may_replace rule moment (unpacked w))) at
      ∙ ap (λ (k : Bool). k || is_time_wait_kind (kind_at kind) && not (may_replace rule moment (unpacked w))) full)

  apart-one : (s : Seen) → HasCard s → keeps_from card moment rule (hashed_in s).card ≡ false → Apart claims (packed card).ends (packed card).ports s
  apart-one s h nay =
      let w = h.0.words in
      let low : w.ports < 2 ^ 64 = subst (λ (l : List ℕ). slice_index l 1 < 2 ^ 64) h.0.is h.1 in
      let free : keeps_from card moment rule (unpacked w) ≡ false =
      ap (λ (l : List ℕ). keeps_from card moment rule (hashed_in (record { slot = s.slot; words = l })).card) (sym h.0.is) ∙ nay in
      let ours : ℕ = tuple (packed card).ends (packed card).ports in
      let theirs : ℕ = tuple w.ends w.ports in
      record {
        ends = w.ends;
        ports = w.ports;
        has-ends = ap (λ (l : List ℕ). get_elem? l 0) h.0.is;
        has-ports = ap (λ (l : List ℕ). get_elem? l 1) h.0.is;
        apart = claims_apart ours w.ends w.ports (λ k q. not-both (sym (⊎_elim (λ e. twin-keeps w low 1 e refl q) (λ e. twin-keeps w low 4 e refl q) k) ∙ free));
      }

  apart-all : (xs : List Seen) → Each HasCard xs → Each (λ (s : Seen). keeps_from card moment rule (hashed_in s).card ≡ false) xs
      → Each (Apart claims (packed card).ends (packed card).ports) xs
  apart-all [] a b = tt
  apart-all (x ∷ xs) a b = (apart-one x a.0 b.0, apart-all xs a.1 b.1)

pub alone_of : (new : Newcomer) (s : Survey) (xs : List Seen) → unpacked (packed new.card) ≡ new.card → (packed new.card).ports < 2 ^ 64
    → Surveyed (seeks.Room new) s xs → s.keeper ≡ None → IsAlone (packed new.card) xs
alone_of new s xs says fits o none full =
    apart-all new.card new.moment new.replace says fits xs o.cards (find-none (keeps new.card new.moment new.replace) xs (sym o.keeper ∙ none))

-- Who may go

pub waiting-kind : (k : Kind) → is_time_wait_kind k ≡ true → k ≡ kinds.TimeWait
waiting-kind kinds.Full e = absurd (not-both (sym e))
waiting-kind kinds.TimeWait e = refl
waiting-kind kinds.Listen e = absurd (not-both (sym e))
waiting-kind kinds.Request e = absurd (not-both (sym e))

right-true : (a b : Bool) → a && b ≡ true → b ≡ true
right-true true b e = e
right-true false b e = absurd (not-both (sym e))

wait-words : (card : Card) → card.kind ≡ kinds.TimeWait → time_waits (card_words card) ≡ 1
wait-words card waits =
    let two : (packed card).ports % 16 ≡ 2 = omega (arith, ap number_of waits) in
    ap (λ (b : Bool). cond b 1 0) (eq-eqb ((packed card).ports % 16) 2 two)

-- who goes is a TIME_WAIT
goes-waits : (sought : Sought) (x : Hashed) → goes_out sought x ≡ true → x.card.kind ≡ kinds.TimeWait
goes-waits (seeks.Room new) x e = waiting-kind x.card.kind (right-true (same_cards new.card x.card) (is_time_wait_kind x.card.kind) e)
goes-waits (seeks.Waiting name) x e = waiting-kind x.card.kind (right-true (x.card.name == name) (is_time_wait_kind x.card.kind) e)

-- the TIME_WAIT that a survey found stands in the list, and may be unhashed
pub waiting_there : (sought : Sought) (s : Survey) (v : View) (x : Hashed) → Surveyed sought s v.chain.walked → ((i : ℕ) → stands i v.chain.walked ≤ 1) → s.waiting ≡ Some x
    → IsIn x v.chain.walked × (time_waits (card_in x.slot v.chain.walked) ≡ 1)
waiting_there sought s v x o once is =
    let t = found_in (goes_out sought) v.chain.walked x (sym o.waiting ∙ is) once o.cards in
    (t.0, ap time_waits t.0.words ∙ wait-words x.card (goes-waits sought x t.1))

-- no place of the pass has its slot
pub waiting_apart : (v : View) (b i : ℕ) (h : Change) → v.chain.locked ≡ b ∷ [] → v.chain.met ≡ 1 → Each IsRead v.chain.walked → PlacesListed v → PlacesApart v
    → 0 < stands i v.chain.walked → time_waits (card_in i v.chain.walked) ≡ 1 → IsPlace v.book h → h.slot ≢ i
waiting_apart v b i h had met read listed apart there waits place at = dite (ℕ_discrete h.bucket b)
    (λ e. let t = listed b h had met place e in
    omega (arith, waits, place.stays, ap time_waits (ap (λ (k : ℕ). card_in k v.chain.walked) (sym at) ∙ t.1 read)))
    (λ ne. omega (arith, there, apart b h had place ne, ap (λ (k : ℕ). stands k v.chain.walked) at))

-- the card of a full socket or of a request is no TIME_WAIT's
pub claims_words : (card : Card) → claims_tuple card.kind ≡ true → time_waits (card_words card) ≡ 0
claims_words card claims = by card.kind refl
  where
    no_wait : (packed card).ports % 16 ≢ 2 → time_waits (card_words card) ≡ 0
    no_wait other = ap (λ (b : Bool). cond b 1 0) (ne_eqb ((packed card).ports % 16) 2 other)

    by : (k : Kind) → card.kind ≡ k → time_waits (card_words card) ≡ 0
    by kinds.Full e = no_wait (λ two. omega (arith, ap number_of e, two))
    by kinds.Request e = no_wait (λ two. omega (arith, ap number_of e, two))
    by kinds.TimeWait e = absurd (not-both (sym claims ∙ ap claims_tuple e))
    by kinds.Listen e = absurd (not-both (sym claims ∙ ap claims_tuple e))
