-- Each kind of step on the book keeps who unhashes what.
use Rattle.std.proofs.Common.{◌≡◌, ◌≢◌, ℕ, ◌+◌, ◌<◌, ◌≤◌, List, [], ◌∷◌, ◌++◌, ◌⊎◌, inl, inr, ⊎_elim, length, set, refl, sym, ap, ◌∙◌, arith}
use mathlib.Core.Logic.{dite}
use native.Mathlib.Decide.{ℕ_discrete}
use mathlib.Core.Option.{some, some-injective, some-ne-none}
use lib.ListN.{get_elem?}
use Rattle.list_words.proofs.PlaceLemmas.{term_le, terms_le, at_below, only_one}
use Rattle.list_words.specs.Lists.{total}
use Rattle.atomic_table.proofs.Lists.{set_here, set_else, at_longer, at_last}
use Rattle.table_rule.specs.Book.{open-end, Part, BookOk, Life, hash_of, unhash_of, LivesOk, marks}
use Rattle.table_rule.specs.Owners.{time_waits, HasChange, OwnUnhash, OwnersOk, IsPlace, HasPlace}
use Rattle.table_rule.specs.declared.view.Change.{Change}
use Rattle.table_rule.specs.declared.view.BookView.{BookView}
use Rattle.table_rule.proofs.CardSteps.{at_end, views_moved}
use Rattle.table_rule.proofs.LifeSteps.{lives_here, lives_else, with_lives}
use Rattle.table_rule.proofs.BookSteps.{is-it, is-here, below_one}
use Rattle.table_rule.proofs.Serial.{three}

-- no change is closed in two views
pub closed_once : (clock : ℕ) (vs : List Part) (o : BookOk clock vs) (k j m l : ℕ) (u v : Part) (c : Change) → k ≢ j → get_elem? vs k ≡ some u → get_elem? vs j ≡ some v → get_elem? u.book.closed m ≡ some c → get_elem? v.book.closed l ≡ some c → ⊥
closed_once clock vs o k j m l u v c ne e f a b =
    let n : ℕ = c.begins in
    let all : total (marks (is-it n)) vs ≤ 1 = omega (arith, o.stamps (is-it n), (below_one n clock).1) in
    let here = is-here n c.begins refl in
    omega (arith, all, here, terms_le (marks (is-it n)) vs j k v u ne f e, term_le (λ (d : Change). is-it n d.begins + is-it n d.ends) u.book.closed m c a, term_le (λ (d : Change). is-it n d.begins + is-it n d.ends) v.book.closed l c b)

-- of the lives after one changed, or one is new: it, or one of before at another place
from_set : (lives : ℕ → List Life) (i n : ℕ) (x y : Life) → get_elem? (lives i) n ≡ some x → (j m : ℕ) (z : Life) → get_elem? (with_lives lives i (set (lives i) n y) j) m ≡ some z → ((j ≡ i) × (m ≡ n) × (y ≡ z)) ⊎ ((j ≡ i → m ≢ n) × (get_elem? (lives j) m ≡ some z))
from_set lives i n x y there j m z e =
    let new : ℕ → List Life = with_lives lives i (set (lives i) n y) in
    let here : new i ≡ set (lives i) n y = lives_here lives i (set (lives i) n y) in
    let now : get_elem? (new i) n ≡ some y = ap (λ (l : List Life). get_elem? l n) here ∙ set_here (lives i) n y (at_below (lives i) n x there) in
    dite (ℕ_discrete j i)
    (λ q. dite (ℕ_discrete m n)
    (λ r. inl (q, r, some-injective y z (sym now ∙ (ap (get_elem? (new i)) (sym r) ∙ (ap (λ (k : ℕ). get_elem? (new k) m) (sym q) ∙ e)))))
    (λ nr. inr ((λ _. nr), ap (λ (k : ℕ). get_elem? (lives k) m) q ∙ (sym (set_else (lives i) n m y nr) ∙ (ap (λ (l : List Life). get_elem? l m) (sym here) ∙ (ap (λ (k : ℕ). get_elem? (new k) m) (sym q) ∙ e))))))
    (λ nq. inr ((λ q. absurd (nq q)), ap (λ (l : List Life). get_elem? l m) (sym (lives_else lives i j (set (lives i) n y) nq)) ∙ e))

from_add : (lives : ℕ → List Life) (i : ℕ) (y : Life) (j m : ℕ) (z : Life) → get_elem? (with_lives lives i (lives i ++ y ∷ []) j) m ≡ some z → (y ≡ z) ⊎ (get_elem? (lives j) m ≡ some z)
from_add lives i y j m z e =
    let new : ℕ → List Life = with_lives lives i (lives i ++ y ∷ []) in
    let here : new i ≡ lives i ++ y ∷ [] = lives_here lives i (lives i ++ y ∷ []) in
    dite (ℕ_discrete j i)
    (λ q. ⊎_elim (λ t. inr (ap (λ (k : ℕ). get_elem? (lives k) m) q ∙ t.0)) (λ t. inl t.0) (at_end (lives i) y z m (ap (λ (l : List Life). get_elem? l m) (sym here) ∙ (ap (λ (k : ℕ). get_elem? (new k) m) (sym q) ∙ e))))
    (λ nq. inr (ap (λ (l : List Life). get_elem? l m) (sym (lives_else lives i j (lives i ++ y ∷ []) nq)) ∙ e))

module _ (clock : ℕ) (lives : ℕ → List Life) (vs : List Part) (o : BookOk clock vs) (l : LivesOk clock lives vs) (h : OwnersOk lives vs) (id : ℕ) (v : Part) (me : get_elem? vs id ≡ some v) where
  few : clock < open-end
  few = omega (arith, o.few)

  -- the changed view, and what the step leaves of any other
  all_owners : (lives' : ℕ → List Life) (w : Part) → OwnUnhash lives' w.book → ((k : ℕ) (u : Part) → k ≢ id → get_elem? vs k ≡ some u → OwnUnhash lives u.book → OwnUnhash lives' u.book) → OwnersOk lives' (set vs id w)
  all_owners lives' w mine other = views_moved (λ (u : Part). OwnUnhash lives u.book) (λ (u : Part). OwnUnhash lives' u.book) vs id w mine other h

  kind_is : (c d : Change) (n : ℕ) (xs : List Change) → xs ≡ c ∷ [] → get_elem? xs n ≡ some d → c ≡ d
  kind_is c d n xs one e = only_one c d n (ap (λ (k : List Change). get_elem? k n) (sym one) ∙ e)

  -- a place is of a life that is whole
  pub place_life : (hash : Change) → IsPlace v.book hash → (n : ℕ) × (z : Life) × (get_elem? (lives hash.slot) n ≡ some z) × (hash ≡ hash_of hash.slot z) × (z.linked < clock) × (z.leaving ≡ open-end)
  place_life hash g =
      let t = l.lived hash (record { who = id; view = v; has = me; nth = g.nth; is = inl g.there }) (omega (arith, g.is-hash)) in
      let z : Life = t.1 in
      let is : hash ≡ hash_of hash.slot z = ⊎_elim (λ r. r) (λ r. absurd (omega (arith, g.is-hash, ap (λ (c : Change). c.kind) r.0))) t.3 in
      let end : hash.ends ≡ z.linked = ap (λ (c : Change). c.ends) is in
      let low : z.linked < clock = omega (arith, end, (o.closed id g.nth v hash me g.there).1) in (
        t.0,
        z,
        t.2,
        is,
        low,
        ⊎_elim (λ r. r)
            (λ r. ⊎_elim (λ f. absurd (g.last (unhash_of hash.slot z) r refl refl (omega (arith, f, end)))) (λ f. f) (l.numbers hash.slot t.0 z t.2).order)
            (h id v me g.nth hash.slot t.0 z t.2 (g.there ∙ ap (λ (c : Change). some c) is) (ap (λ (c : Change). time_waits c.card) (sym is) ∙ g.stays)),
      )

  -- neither changes of a life nor lives change: a beginning alone is drawn or dropped
  pub owners_waits : (w : Part) → w.book.closed ≡ v.book.closed → ((n : ℕ) (c : Change) → get_elem? v.book.opened n ≡ some c → c.kind ≡ 2) → OwnersOk lives (set vs id w)
  owners_waits w same before = all_owners lives w
      (λ m i n x e there tw. ⊎_elim inl (λ z. inr record { nth = z.nth; is = ⊎_elim (λ y. inl (ap (λ (k : List Change). get_elem? k z.nth) same ∙ y)) (λ y. absurd (let b = before z.nth (unhash_of i x) y in omega arith)) z.is })
      (h id v me m i n x e (ap (λ (k : List Change). get_elem? k m) (sym same) ∙ there) tw))
      (λ k u ne e z. z)

  -- a slot is claimed
  pub owners_claims : (w : Part) (c₀ : Change) (i : ℕ) (y : Life) → w.book.closed ≡ v.book.closed → v.book.opened ≡ c₀ ∷ [] → c₀.kind ≡ 2 → y.leaving ≡ open-end → OwnersOk (with_lives lives i (lives i ++ y ∷ [])) (set vs id w)
  owners_claims w c₀ i y same one alone still =
      let old : (b : BookView) → OwnUnhash lives b → (m j n : ℕ) (x : Life) → get_elem? (with_lives lives i (lives i ++ y ∷ []) j) n ≡ some x → get_elem? b.closed m ≡ some (hash_of j x) → time_waits x.card ≡ 0 → (x.leaving ≡ open-end) ⊎ HasChange b (unhash_of j x) = λ b z m j n x e there tw.
      ⊎_elim (λ t. inl (sym (ap (λ (k : Life). k.leaving) t) ∙ still)) (λ t. z m j n x t there tw) (from_add lives i y j n x e) in
      all_owners (with_lives lives i (lives i ++ y ∷ [])) w
      (λ m j n x e there tw. ⊎_elim inl (λ z. inr record { nth = z.nth; is = ⊎_elim (λ q. inl (ap (λ (k : List Change). get_elem? k z.nth) same ∙ q)) (λ q. absurd (omega (arith, alone, ap (λ (k : Change). k.kind) (kind_is c₀ (unhash_of j x) z.nth v.book.opened one q)))) z.is })
      (old v.book (h id v me) m j n x e (ap (λ (k : List Change). get_elem? k m) (sym same) ∙ there) tw))
      (λ k u ne e z. old u.book z)

  module _ (i n : ℕ) (x y : Life) (there : get_elem? (lives i) n ≡ some x) where
    abbrev now : ℕ → List Life
    now = with_lives lives i (set (lives i) n y)

    -- others, where nobody has begun to unhash the life
    others_still : y.leaving ≡ open-end → (k : ℕ) (u : Part) → k ≢ id → get_elem? vs k ≡ some u → OwnUnhash lives u.book → OwnUnhash now u.book
    others_still still k u ne e z m j q p a b tw = ⊎_elim (λ t. inl (sym (ap (λ (s : Life). s.leaving) t.2) ∙ still)) (λ t. z m j q p t.1 b tw) (from_set lives i n x y there j q p a)

    -- LIVE is set
    pub owners_lights : (w : Part) → w.book.closed ≡ v.book.closed → v.book.opened ≡ hash_of i x ∷ [] → y.leaving ≡ open-end → OwnersOk now (set vs id w)
    owners_lights w same one still = all_owners now w
        (λ m j q p a b tw. ⊎_elim inl (λ z. inr record { nth = z.nth; is = ⊎_elim (λ s. inl (ap (λ (k : List Change). get_elem? k z.nth) same ∙ s)) (λ s. absurd (omega (arith, ap (λ (k : Change). k.kind) (kind_is (hash_of i x) (unhash_of j p) z.nth v.book.opened one s)))) z.is })
        (others' m j q p a (ap (λ (k : List Change). get_elem? k m) (sym same) ∙ b) tw))
        (others_still still)
      where
        others' : OwnUnhash now v.book
        others' m j q p a b tw = ⊎_elim (λ t. inl (sym (ap (λ (s : Life). s.leaving) t.2) ∙ still)) (λ t. h id v me m j q p t.1 b tw) (from_set lives i n x y there j q p a)

    -- a hash's end is drawn
    pub owners_ends_hash : (w : Part) → w.book.closed ≡ v.book.closed ++ hash_of i y ∷ [] → v.book.opened ≡ hash_of i x ∷ [] → y.leaving ≡ open-end → y.linked ≡ clock → OwnersOk now (set vs id w)
    owners_ends_hash w grown one still end = all_owners now w
        (λ m j q p a b tw. ⊎_elim (λ t. inl (sym (ap (λ (s : Life). s.leaving) t.2) ∙ still))
        (λ t. ⊎_elim
        (λ s. ⊎_elim inl (λ z. inr record { nth = z.nth; is = ⊎_elim (λ r. inl (ap (λ (k : List Change). get_elem? k z.nth) grown ∙ at_longer v.book.closed (hash_of i y ∷ []) z.nth (unhash_of j p) r)) (λ r. absurd (omega (arith, ap (λ (k : Change). k.kind) (kind_is (hash_of i x) (unhash_of j p) z.nth v.book.opened one r)))) z.is })
        (h id v me m j q p t.1 s.0 tw))
        (λ s. absurd (let c = ap (λ (k : Change). k.ends) s.0 in ⊎_elim (λ r. omega (arith, r, c, end)) (λ r. omega (arith, r, c, end, few)) (l.numbers j q p t.1).linked))
        (at_end v.book.closed (hash_of i y) (hash_of j p) m (ap (λ (k : List Change). get_elem? k m) (sym grown) ∙ b)))
        (from_set lives i n x y there j q p a))
        (others_still still)

    -- an unhash's beginning is drawn: it is of a TIME_WAIT, or of its own pass
    pub owners_leaves : (w : Part) → w.book.closed ≡ v.book.closed → v.book.opened ≡ [] → w.book.opened ≡ unhash_of i y ∷ [] → x.leaving ≡ open-end → hash_of i y ≡ hash_of i x → (time_waits x.card ≡ 1) ⊎ HasPlace i v.book → OwnersOk now (set vs id w)
    owners_leaves w same none one still as-x own = all_owners now w
        (λ m j q p a b tw. ⊎_elim
        (λ t. inr record { nth = 0; is = inr (ap (λ (k : List Change). get_elem? k 0) one ∙ ap (λ (c : Change). some c) (ap (unhash_of i) t.2 ∙ ap (λ (k : ℕ). unhash_of k p) (sym t.0))) })
        (λ t. ⊎_elim inl (λ z. inr record { nth = z.nth; is = ⊎_elim (λ s. inl (ap (λ (k : List Change). get_elem? k z.nth) same ∙ s)) (λ s. absurd (some-ne-none (unhash_of j p) (sym (ap (λ (k : List Change). get_elem? k z.nth) (sym none) ∙ s)))) z.is })
        (h id v me m j q p t.1 (ap (λ (k : List Change). get_elem? k m) (sym same) ∙ b) tw))
        (from_set lives i n x y there j q p a))
        (λ k u ne e z m j q p a b tw. ⊎_elim
        (λ t. absurd (foreign k u m ne e (b ∙ ap (λ (c : Change). some c) (ap (λ (g : ℕ). hash_of g p) t.0 ∙ (ap (hash_of i) (sym t.2) ∙ as-x))) (ap (λ (c : Change). time_waits c.card) (sym as-x ∙ ap (hash_of i) t.2) ∙ tw)))
        (λ t. z m j q p t.1 b tw)
        (from_set lives i n x y there j q p a))
      where
        -- no other view has the hash closed
        foreign : (k : ℕ) (u : Part) (m : ℕ) → k ≢ id → get_elem? vs k ≡ some u → get_elem? u.book.closed m ≡ some (hash_of i x) → time_waits x.card ≡ 0 → ⊥
        foreign k u m ne e b tw = ⊎_elim (λ z. omega (arith, z, tw))
            (λ g. let t = place_life g.0 g.2 in
            let z : Life = t.1 in
            let is-i : g.0 ≡ hash_of i z = t.3 ∙ ap (λ (j : ℕ). hash_of j z) g.1 in
            let at : get_elem? (lives i) t.0 ≡ some z = ap (λ (j : ℕ). get_elem? (lives j) t.0) (sym g.1) ∙ t.2 in
            let closed-z : get_elem? v.book.closed g.2.nth ≡ some (hash_of i z) = g.2.there ∙ ap (λ (c : Change). some c) is-i in
            let open-z : z.leaving ≡ open-end = t.5 in
            let low : (p : ℕ) (s : Life) → get_elem? (lives i) p ≡ some s → s.linked ≤ open-end = λ p s f. ⊎_elim (λ r. omega (arith, r, few)) (λ r. omega (arith, r)) (l.numbers i p s f).linked in
            let same-life : z ≡ x = three t.0 n (λ lt. absurd (let f = l.order i t.0 n z x at there lt in omega (arith, f, open-z, low n x there))) (λ eq. some-injective z x (sym at ∙ (ap (get_elem? (lives i)) eq ∙ there))) (λ gt. absurd (let f = l.order i n t.0 x z there at gt in omega (arith, f, still, low t.0 z at))) in
            closed_once clock vs o k id m g.2.nth u v (hash_of i x) ne e me b (closed-z ∙ ap (λ (s : Life). some (hash_of i s)) same-life))
            own

    -- an unhash's end is drawn
    pub owners_ends_unhash : (w : Part) → w.book.closed ≡ v.book.closed ++ unhash_of i y ∷ [] → v.book.opened ≡ unhash_of i x ∷ [] → x.leaving < open-end → x.left ≡ open-end → hash_of i y ≡ hash_of i x → ((k m : ℕ) (u : Part) (c : Change) → k ≢ id → get_elem? vs k ≡ some u → get_elem? u.book.opened m ≡ some c → c.bucket ≢ x.bucket) → OwnersOk now (set vs id w)
    owners_ends_unhash w grown one begun left as-x alone = all_owners now w
        (λ m j q p a b tw. ⊎_elim
        (λ t. inr record { nth = length v.book.closed; is = inl (ap (λ (k : List Change). get_elem? k (length v.book.closed)) grown ∙ (at_last v.book.closed (unhash_of i y) (length v.book.closed) refl ∙ ap (λ (c : Change). some c) (ap (unhash_of i) t.2 ∙ ap (λ (k : ℕ). unhash_of k p) (sym t.0)))) })
        (λ t. ⊎_elim
        (λ s. ⊎_elim inl (λ z. inr record { nth = z.nth; is = ⊎_elim (λ r. inl (ap (λ (k : List Change). get_elem? k z.nth) grown ∙ at_longer v.book.closed (unhash_of i y ∷ []) z.nth (unhash_of j p) r)) (λ r. absurd (twice j q p t.0 t.1 (kind_is (unhash_of i x) (unhash_of j p) z.nth v.book.opened one r))) z.is })
        (h id v me m j q p t.1 s.0 tw))
        (λ s. absurd (omega (arith, ap (λ (k : Change). k.kind) s.0)))
        (at_end v.book.closed (unhash_of i y) (hash_of j p) m (ap (λ (k : List Change). get_elem? k m) (sym grown) ∙ b)))
        (from_set lives i n x y there j q p a))
        (λ k u ne e z m j q p a b tw. ⊎_elim
        (λ t. absurd (⊎_elim (λ r. omega (arith, r, begun)) (λ r. ⊎_elim
        (λ s. let f = o.closed k r.nth u (unhash_of i x) e s in omega (arith, f.1, left, few))
        (λ s. alone k r.nth u (unhash_of i x) ne e s refl) r.is)
        (z m i n x there (b ∙ ap (λ (c : Change). some c) (ap (λ (g : ℕ). hash_of g p) t.0 ∙ (ap (hash_of i) (sym t.2) ∙ as-x))) (ap (λ (c : Change). time_waits c.card) (sym as-x ∙ ap (hash_of i) t.2) ∙ tw))))
        (λ t. z m j q p t.1 b tw)
        (from_set lives i n x y there j q p a))
      where
        twice : (j q : ℕ) (p : Life) → (j ≡ i → q ≢ n) → get_elem? (lives j) q ≡ some p → unhash_of i x ≡ unhash_of j p → ⊥
        twice j q p ne f same =
            let slot : i ≡ j = ap (λ (c : Change). c.slot) same in
            let leaving : x.leaving ≡ p.leaving = ap (λ (c : Change). c.begins) same in
            let at : get_elem? (lives i) q ≡ some p = ap (λ (g : ℕ). get_elem? (lives g) q) slot ∙ f in
            three q n
            (λ lt. let g = l.order i q n p x at there lt in ⊎_elim (λ r. omega (arith, r, g, leaving)) (λ r. omega (arith, r, begun)) (l.numbers i n x there).order)
            (λ eq. ne (sym slot) eq)
            (λ gt. let g = l.order i n q x p there at gt in ⊎_elim (λ r. omega (arith, r, g, leaving)) (λ r. omega (arith, r, leaving, begun)) (l.numbers i q p at).order)
