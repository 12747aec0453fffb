-- A socket comes into a walked chain beside its request, and then the request goes.
use Rattle.std.proofs.Common.{◌≡◌, ◌≢◌, ℕ, ◌+◌, ◌*◌, ◌/◌, ◌%◌, ◌<◌, ◌≤◌, List, [], ◌∷◌, inr, length, Result, Ok, Err, IfOk, Bool, true, cond, eqb, eq-eqb, ne_eqb, sym, refl, ap, ◌∙◌, arith, subst}
use mathlib.Core.Logic.{dite}
use native.Mathlib.Decide.{ℕ_discrete}
use lib.ListN.{get_elem?}
use Rattle.list_words.specs.Lists.{Each}
use Rattle.sock_card.specs.Words.{packed, unpacked, number_of}
use Rattle.sock_card.specs.Tuples.{tuple_of}
use Rattle.sock_card.specs.declared.card.Card.{Card}
use Rattle.sock_card.specs.declared.card.Kind.TheVariants as kinds
use Rattle.sock_card.specs.declared.words.CardWords.{CardWords}
use Rattle.sock_card.proofs.Tuples.{PartsAgree, parts_agree}
use Rattle.chain_book.specs.Tuples.{same_cards}
use Rattle.table_rule.specs.Lists.{stands, slots_of}
use Rattle.table_rule.specs.CardsOk.{tuple, bears, claims, has_tuple, may_claim, all_claims, NoneTwice}
use Rattle.table_rule.specs.Plays.{card_in, without, TuplesListed}
use Rattle.table_rule.specs.Words.{words_of}
use Rattle.table_rule.specs.Calls.{seen_of, IsIdle, MayUnlock}
use Rattle.table_rule.specs.declared.view.View.{View}
use Rattle.table_rule.specs.declared.view.BookView.{BookView}
use Rattle.sock_slots.specs.declared.fresh.Full.{Full}
use Rattle.table_rule.specs.declared.view.Layout.{Layout}
use Rattle.table_rule.specs.declared.view.Seen.{Seen}
use Rattle.table_rule.proofs.Lists.{times-else}
use Rattle.table_rule.proofs.CardSteps.{bears_few, full_has}
use Rattle.bucket_locks.specs.Locks.{WalkKnown}
use Rattle.nulls_chain.specs.Changes.{Apart, HasNoTwin, IsPlaced, IsPlacedBy}
use Rattle.nulls_chain.specs.declared.keeping.Place.{Place}
use Rattle.nulls_chain.proofs.Found.{place_listed}

-- Of a list, how many have a four-tuple

-- without one of its slots it has so many fewer
all_without : (t i : ℕ) (xs : List Seen) → 0 < stands i xs → all_claims t (without i xs) + may_claim t (card_in i xs) ≡ all_claims t xs
all_without t i [] there = absurd (omega (arith, there))
all_without t i (x ∷ xs) there = dite (ℕ_discrete x.slot i)
    (λ e. omega (
      arith,
      ap (λ (b : Bool). all_claims t (cond b xs (x ∷ without i xs))) (eq-eqb x.slot i e),
      ap (λ (b : Bool). may_claim t (cond b x.words (card_in i xs))) (eq-eqb x.slot i e),
    ))
    (λ ne. omega (
      arith,
      all_without t i xs (let z = times-else x.slot i (slots_of xs) ne in omega (arith, z, there)),
      ap (λ (b : Bool). all_claims t (cond b xs (x ∷ without i xs))) (ne_eqb x.slot i ne),
      ap (λ (b : Bool). may_claim t (cond b x.words (card_in i xs))) (ne_eqb x.slot i ne),
    ))

one_apart : (a b : ℕ) (s : Seen) → may_claim (tuple a b) s.words ≡ 0 → Apart bears a b s
one_apart a b s none = go s.words refl none
  where
    go : (ws : List ℕ) → s.words ≡ ws → may_claim (tuple a b) ws ≡ 0 → Apart bears a b s
    go [] e z = absurd (omega (arith, z))
    go (x ∷ []) e z = absurd (omega (arith, z))
    go (x ∷ y ∷ ws) e z = record { ends = x; ports = y; has-ends = ap (λ (l : List ℕ). get_elem? l 0) e; has-ports = ap (λ (l : List ℕ). get_elem? l 1) e; apart = omega (arith, bears_few (tuple a b) x y, z) }

all_apart : (a b : ℕ) (xs : List Seen) → all_claims (tuple a b) xs ≡ 0 → Each (Apart bears a b) xs
all_apart a b [] none = tt
all_apart a b (x ∷ xs) none = (one_apart a b x (omega (arith, none)), all_apart a b xs (omega (arith, none)))

-- where a request has the four-tuple, and no other of full sockets and requests, no full socket has it
apart_beside : (a b i : ℕ) (c : CardWords) (xs : List Seen) → all_claims (tuple a b) xs ≤ 1 → 0 < stands i xs → card_in i xs ≡ words_of c → claims (tuple a b) c.ends c.ports ≡ 1 → bears (tuple a b) c.ends c.ports ≡ 0
    → Each (Apart bears a b) xs
apart_beside a b i c [] few there is has free = tt
apart_beside a b i c (x ∷ xs) few there is has free = dite (ℕ_discrete x.slot i)
    (λ e. let w : x.words ≡ words_of c = sym (ap (λ (k : Bool). cond k x.words (card_in i xs)) (eq-eqb x.slot i e)) ∙ is in (
      record { ends = c.ends; ports = c.ports; has-ends = ap (λ (l : List ℕ). get_elem? l 0) w; has-ports = ap (λ (l : List ℕ). get_elem? l 1) w; apart = free },
      all_apart a b xs (omega (arith, few, ap (may_claim (tuple a b)) w, has)),
    ))
    (λ ne. let there' : 0 < stands i xs = (let z = times-else x.slot i (slots_of xs) ne in omega (arith, z, there)) in
    let is' : card_in i xs ≡ words_of c = sym (ap (λ (k : Bool). cond k x.words (card_in i xs)) (ne_eqb x.slot i ne)) ∙ is in (
      one_apart a b x (omega (arith, few, all_without (tuple a b) i xs there', ap (may_claim (tuple a b)) is', has)),
      apart_beside a b i c xs (omega (arith, few)) there' is' has free,
    ))

-- Two cards of one four-tuple

ends_agree : (a b : ℕ) → a / 4294967296 ≡ b / 4294967296 → a % 4294967296 ≡ b % 4294967296 → a ≡ b
ends_agree a b p q = omega (arith, p, q)

ports_agree : (a b : ℕ) → a / 281474976710656 ≡ b / 281474976710656 → a / 4294967296 % 65536 ≡ b / 4294967296 % 65536 → a / 4294967296 ≡ b / 4294967296
ports_agree a b p q = omega (arith, p, q)

pub words_agree : (a b : CardWords) → PartsAgree (tuple_of (unpacked a)) (tuple_of (unpacked b)) → tuple a.ends a.ports ≡ tuple b.ends b.ports
words_agree a b t =
    let e = ends_agree a.ends b.ends t.local t.remote in
    let p = ports_agree a.ports b.ports t.lport t.rport in
    λ k. (e k * 4294967296 + p k) * 256 + t.net k

claims_as : (t a b : ℕ) → has_tuple b ≡ true → claims t a b ≡ cond (eqb (tuple a b) t) 1 0
claims_as t a b has = ap (λ (k : Bool). cond k (cond (eqb (tuple a b) t) 1 0) 0) has

-- a request's card, and that of its socket
module _ (card request : Card) (told : unpacked (packed card) ≡ card) (told' : unpacked (packed request) ≡ request) (full : card.kind ≡ kinds.Full) (pending : request.kind ≡ kinds.Request) (same : same_cards card request ≡ true) where
  abbrev new : CardWords
  new = packed card

  abbrev old : CardWords
  old = packed request

  one_tuple : tuple new.ends new.ports ≡ tuple old.ends old.ports
  one_tuple = words_agree new old (parts_agree (tuple_of (unpacked new)) (tuple_of (unpacked old))
      (subst (λ (c : Card). same_cards c (unpacked old) ≡ true) (sym told) (subst (λ (c : Card). same_cards card c ≡ true) (sym told') same)))

  four : old.ports % 16 ≡ 4
  four = omega (arith, ap number_of pending)

  old_has : has_tuple old.ports ≡ true
  old_has = ap (λ (k : Bool). cond k true (eqb (old.ports % 16) 4)) (ne_eqb (old.ports % 16) 1 (λ one. omega (arith, one, four))) ∙ eq-eqb (old.ports % 16) 4 four

  new_has : has_tuple new.ports ≡ true
  new_has = full_has new.ports (omega (arith, ap number_of full))

  -- one claims what the other does
  claims_both : (t : ℕ) → claims t new.ends new.ports ≡ claims t old.ends old.ports
  claims_both t = claims_as t new.ends new.ports new_has ∙ (ap (λ (k : ℕ). cond (eqb k t) 1 0) one_tuple ∙ sym (claims_as t old.ends old.ports old_has))

  old_claims : claims (tuple new.ends new.ports) old.ends old.ports ≡ 1
  old_claims = claims_as (tuple new.ends new.ports) old.ends old.ports old_has ∙ ap (λ (k : Bool). cond k 1 0) (eq-eqb (tuple old.ends old.ports) (tuple new.ends new.ports) (sym one_tuple))

  old_bears : bears (tuple new.ends new.ports) old.ends old.ports ≡ 0
  old_bears = ap (λ (k : Bool). cond k (cond (eqb (tuple old.ends old.ports) (tuple new.ends new.ports)) 1 0) 0) (ne_eqb (old.ports % 16) 1 (λ one. omega (arith, one, four)))

  -- the request stands in a walked list, in which no two have one four-tuple
  module _ (i : ℕ) (xs : List Seen) (none : NoneTwice xs) (there : 0 < stands i xs) (is : card_in i xs ≡ words_of old) where
    none_twice_after : (slot : ℕ) → stands slot xs ≡ 0 → NoneTwice (without i (seen_of slot new ∷ xs))
    none_twice_after slot far t =
        let first : Seen = seen_of slot new in
        let ne : slot ≢ i = λ e. omega (arith, far, there, ap (λ (k : ℕ). stands k xs) e) in
        omega (
          arith,
          none t,
          all_without t i xs there,
          ap (may_claim t) is,
          claims_both t,
          ap (λ (b : Bool). all_claims t (cond b xs (first ∷ without i xs))) (ne_eqb slot i ne),
        )

  module _ (layout : Layout) (v : View) (place : Place) (card-is : place.card ≡ request) (locked : v.chain.locked ≡ place.bucket ∷ []) (met : v.chain.met ≡ 1) (known : WalkKnown layout v) (placed : IsPlaced place v.book) (idle : IsIdle v.slot) (tuples : TuplesListed v) (once : v.twice ≡ 0) where
    listed : (0 < stands place.slot v.chain.walked) × (card_in place.slot v.chain.walked ≡ words_of (packed place.card))
    listed = place_listed layout v v.book place locked met refl known placed

    none-twice : NoneTwice v.chain.walked
    none-twice = tuples place.bucket locked met once idle.2 idle.3 known.0

    -- the socket's card may come
    pub may_come : HasNoTwin new v.chain.walked
    may_come full-kind = apart_beside new.ends new.ports place.slot old v.chain.walked (none-twice (tuple new.ends new.ports)) listed.0 (listed.1 ∙ ap (λ (c : Card). words_of (packed c)) card-is) old_claims old_bears

    -- it has another slot than the request
    pub other_than : (slot : ℕ) → stands slot v.chain.walked ≡ 0 → slot ≢ place.slot
    other_than slot far e = omega (arith, far, listed.0, ap (λ (k : ℕ). stands k v.chain.walked) e)

    -- and once the request is gone the lock may be given back
    pub may_unlock : (w : View) (slot : ℕ) → stands slot v.chain.walked ≡ 0 → w.chain.walked ≡ without place.slot (seen_of slot new ∷ v.chain.walked) → w.chain.met ≡ 1 → MayUnlock w
    may_unlock w slot far walked end =
        inr (end, subst NoneTwice (sym walked) (none_twice_after place.slot v.chain.walked none-twice listed.0 (listed.1 ∙ ap (λ (c : Card). words_of (packed c)) card-is) slot far))

-- the lock is given back
pub newest_still : (r : Result Place (Place × Full)) (v w x y : View) → w.book ≡ v.book → y.book ≡ x.book → IfOk r (λ p. IsPlacedBy (length w.book.closed) p x.book) → IfOk r (λ p. IsPlacedBy (length v.book.closed) p y.book)
newest_still (Ok p) v w x y before after h = subst (λ (b : BookView). IsPlacedBy (length b.closed) p y.book) before (subst (IsPlacedBy (length w.book.closed) p) (sym after) h)
newest_still (Err e) v w x y before after h = tt
