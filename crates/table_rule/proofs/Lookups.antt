-- What each step of a lookup shows.
use Rattle.std.proofs.Common.{◌≡◌, ◌≢◌, ℕ, zero, suc, ◌+◌, ◌*◌, ◌/◌, ◌%◌, ◌<◌, ◌≤◌, List, [], ◌∷◌, ◌++◌, ◌⊎◌, inl, inr, ⊎_elim, map, length, refl, sym, ap, ◌∙◌, subst, arith, slice_index, cond, eqb, Bool, eq-eqb, ne_eqb}
use mathlib.Core.Logic.{dite}
use native.Mathlib.Decide.{ℕ_discrete, dec_le}
use mathlib.Core.Option.{some, some-injective, some-ne-none}
use lib.ListN.{get_elem?}
use Rattle.list_words.proofs.EachLemmas.{each_append}
use Rattle.list_words.specs.Lists.{total, Each}
use Rattle.atomic_table.proofs.Lists.{at_map}
use Rattle.table_rule.specs.Lists.{times}
use Rattle.table_rule.specs.Words.{at, head_at, bucket_count}
use Rattle.table_rule.specs.SlotsOk.{owns}
use Rattle.table_rule.specs.ChainsOk.{Path, linked_below}
use Rattle.table_rule.specs.CardsOk.{SeenOk}
use Rattle.table_rule.specs.Book.{open-end, below, Life}
use Rattle.table_rule.specs.LinkedOk.{words_at, Whole, Busy}
use Rattle.sock_card.specs.Words.{word_rank as rank}
use Rattle.table_rule.specs.ReadersOk.{rank_of, Miss, ends, passes, SlotMet, HashMet, LeftMet, Strayed, LifeStood, NoneStayed, InChain, OnTrack, NoneBetter, StopOk, ReceiptOk, SightedOk, Sought, Way, PeekOk, ReaderOk, KeptOk, Readers}
use Rattle.table_rule.specs.Rule.{slot_part, book_part, dark_of, Parts, More}
use Rattle.table_rule.specs.Plays.{standing, stopping, glancing, knowing, IsLive, receipt}
use Rattle.table_rule.specs.declared.view.View.{View}
use Rattle.table_rule.specs.declared.view.Layout.{Layout}
use Rattle.table_rule.specs.declared.view.Seen.{Seen}
use Rattle.table_rule.specs.declared.view.Kept.{Kept}
use Rattle.table_rule.specs.declared.view.Change.{Change}
use Rattle.table_rule.specs.declared.view.Reader.{Reader}
use Rattle.table_rule.proofs.Lists.{times-here, linked_le}
use Rattle.table_rule.proofs.CardSteps.{at_end, seen_reads}
use Rattle.table_rule.proofs.SlotSteps.{counts_small}
use Rattle.table_rule.proofs.Serial.{three}
use Rattle.table_rule.proofs.Ways.{meets, even-odd}
use Rattle.table_rule.proofs.Sightings.{linked_where}
use Rattle.sock_card.specs.declared.card.Packet.{Packet}
use Rattle.sock_card.proofs.Most.{word_rank_most}

-- A chain is no longer than the slots

count_one : (x n : ℕ) → (n ≤ x → below (λ i. cond (eqb x i) 1 0) n ≡ 0) × (x < n → below (λ i. cond (eqb x i) 1 0) n ≡ 1)
count_one x zero = ((λ h. refl), λ h. absurd (omega arith))
count_one x (suc n) = let r = count_one x n in dite (ℕ_discrete x n)
    (λ e. ((λ h. absurd (omega (arith, e))), λ h. omega (arith, r.0 (omega (arith, e)), ap {B = ℕ} (λ (b : Bool). cond b 1 0) (eq-eqb x n e))))
    (λ ne. let z : cond (eqb x n) 1 0 ≡ 0 = ap {B = ℕ} (λ (b : Bool). cond b 1 0) (ne_eqb x n ne) in ((λ h. omega (arith, z, r.0 (omega arith))), λ h. omega (arith, z, r.1 (omega (arith, ne)))))

below_add : (f g : ℕ → ℕ) (n : ℕ) → below (λ i. f i + g i) n ≡ below f n + below g n
below_add f g zero = refl
below_add f g (suc n) = omega (arith, below_add f g n)

below_zero : (n : ℕ) → below (λ i. 0) n ≡ 0
below_zero zero = refl
below_zero (suc n) = omega (arith, below_zero n)

below_le : (f : ℕ → ℕ) (n : ℕ) → ((i : ℕ) → f i ≤ 1) → below f n ≤ n
below_le f zero h = omega arith
below_le f (suc n) h = omega (arith, below_le f n h, h n)

count : (xs : List ℕ) (n : ℕ) → ((i : ℕ) → 0 < times i xs → i < n) → length xs ≡ below (λ i. times i xs) n
count [] n h = sym (below_zero n)
count (x ∷ xs) n h =
    let split : below (λ i. times i (x ∷ xs)) n ≡ below (λ i. cond (eqb x i) 1 0) n + below (λ i. times i xs) n = below_add (λ i. cond (eqb x i) 1 0) (λ i. times i xs) n in
    let one = (count_one x n).1 (h x (omega (arith, times-here x xs))) in
    let more = count xs n (λ i g. h i (let z : times i (x ∷ xs) ≡ cond (eqb x i) 1 0 + times i xs = refl in omega (arith, z, g))) in
    omega (arith, split, one, more)

-- the first two of four words
pub word_of_card : (card : ℕ → ℕ → ℕ) (i w : ℕ) → w < 4 → slice_index (words_at card i) w ≡ card i w
word_of_card card i zero h = refl
word_of_card card i (suc zero) h = refl
word_of_card card i (suc (suc zero)) h = refl
word_of_card card i (suc (suc (suc zero))) h = refl
word_of_card card i (suc (suc (suc (suc w)))) h = absurd (omega arith)

module _ (layout : Layout) (word : ℕ → ℕ) (chain : ℕ → List ℕ) (lives : ℕ → List Life) (vs : List View) (p : Parts layout word chain vs) (m : More layout word chain lives vs) (o : Readers layout word chain lives vs) where
  abbrev pub B : ℕ
  B = (bucket_count layout)

  abbrev pub Lk : ℕ → ℕ
  Lk i = linked_below i chain B

  abbrev pub Nx : ℕ → ℕ
  Nx i = word (at layout i 1)

  abbrev pub Cd : ℕ → ℕ → ℕ
  Cd i w = word (at layout i (2 + w))

  abbrev pub Rd : Reader → Type 0
  Rd q = ReaderOk B layout.shape.slots Nx chain Cd lives (word 0) q

  abbrev pub Wy : Reader → Type 0
  Wy q = Way B layout.shape.slots Nx chain lives (word 0) q

  abbrev pub Kp : Kept → Type 0
  Kp h = KeptOk Cd lives (word 0) h

  abbrev pub Finds : Reader → ℕ → Type 0
  Finds q l = (i n : ℕ) (x : Life) → get_elem? (lives i) n ≡ some x → Sought q x → Miss Nx q.bucket i l → ⊥

  -- what was loaded without a count
  abbrev pub Pk : ℕ → ℕ → Seen → Type 0
  Pk since bucket s = PeekOk B chain Cd lives since (word 0) bucket s

  abbrev pub Strays : Reader → Type 0
  Strays q = Strayed lives q.since (word 0) q.bucket

  abbrev pub Chained : Reader → ℕ → Type 0
  Chained q i = InChain B chain lives q.since (word 0) q.bucket i

  few : word 0 < open-end
  few = let z = m.book.few in omega arith

  pub chain_short : (b : ℕ) → b < B → length (chain b) ≤ layout.shape.slots
  chain_short b near = omega (
    arith,
    count (chain b) layout.shape.slots (λ i h. dite (dec_le layout.shape.slots i) (λ g. absurd (omega (arith, h, p.chains.inside i g, linked_le i chain b B near))) (λ n. omega (arith, n))),
    below_le (λ i. times i (chain b)) layout.shape.slots (λ i. omega (arith, linked_le i chain b B near, p.chains.once i)),
  )

  -- a linked slot's life is the slot's newest
  pub linked_newest : (b i : ℕ) (near : b < B) (has : 0 < times i (chain b)) (k : ℕ) (y : Life) → get_elem? (lives i) k ≡ some y → (m.linked.links b i near has).nth < k → ⊥
  linked_newest b i near has k y e lt =
      let t = m.linked.links b i near has in
      let x = t.life in
      let num = m.lived.numbers i t.nth x t.there in
      let mine = m.lived.numbers i k y e in
      let before = m.lived.order i t.nth k x y t.there e lt in
      let low : y.linked ≤ open-end = ⊎_elim (λ z. omega (arith, z, few)) (λ z. omega (arith, z)) mine.linked in
      ⊎_elim
      (λ z. omega (arith, before, low, z.1))
      (λ b'. ⊎_elim
      (λ z. let q = m.book.opened b'.who b'.nth (book_part b'.view) b'.change (at_map book_part vs b'.who b'.view b'.has) b'.is in
      let end : x.linked ≡ open-end = sym (ap (λ (c : Change). c.ends) z) ∙ q.1 in
      ⊎_elim (λ r. ⊎_elim (λ u. omega (arith, r, u, end, few)) (λ u. omega (arith, before, low, u)) num.leaving) (λ r. omega (arith, before, low, r)) num.order)
      (λ z. let q = m.linked.opened b'.who b'.nth b'.view b'.change b'.has b'.is in
      let kind : b'.change.kind ≡ 0 = ap (λ (c : Change). c.kind) z.0 in
      let slot : b'.change.slot ≡ i = ap (λ (c : Change). c.slot) z.0 in
      let bucket : b'.change.bucket ≡ b = ap (λ (c : Change). c.bucket) z.0 ∙ t.bucket in
      let begins : b'.change.begins ≡ x.leaving = ap (λ (c : Change). c.begins) z.0 in
      dite (ℕ_discrete b'.view.done 0)
      (λ d. let l = (q.linked kind d).1 k y (ap (λ (j : ℕ). get_elem? (lives j) k) slot ∙ e) in ⊎_elim (λ r. omega (arith, r, l.1, begins, before)) (λ r. omega (arith, r, l.0)) mine.order)
      (λ nd. let g = q.gone kind (omega (arith, nd, o.steps b'.who b'.view b'.has)) in
      omega (arith, g, has, ap (λ (j : ℕ). times j (chain b'.change.bucket)) slot, ap (λ (j : ℕ). times i (chain j)) bucket)))
      b'.of) t.state

  -- a life that is whole has the card that stands in its slot
  pub whole_card : (i n : ℕ) (x : Life) → get_elem? (lives i) n ≡ some x → Whole x → x.card ≡ words_at Cd i
  whole_card i n x e wh =
      let w = m.linked.whole i n x e wh in
      let t = m.linked.links x.bucket i w.0 w.1 in
      let y = t.life in
      let num = m.lived.numbers i t.nth y t.there in
      three t.nth n
      (λ lt. let before = m.lived.order i t.nth n y x t.there e lt in
      absurd (⊎_elim
      (λ z. omega (arith, before, z.1, wh.0, few))
      (λ b. ⊎_elim
      (λ z. let q = m.book.opened b.who b.nth (book_part b.view) b.change (at_map book_part vs b.who b.view b.has) b.is in
      let end : y.linked ≡ open-end = sym (ap (λ (c : Change). c.ends) z) ∙ q.1 in ⊎_elim (λ r. omega (arith, r, end, before, wh.0)) (λ r. omega (arith, r, before, wh.0)) num.order)
      (λ z. let q = m.linked.opened b.who b.nth b.view b.change b.has b.is in
      let kind : b.change.kind ≡ 0 = ap (λ (c : Change). c.kind) z.0 in
      let slot : b.change.slot ≡ i = ap (λ (c : Change). c.slot) z.0 in
      let bucket : b.change.bucket ≡ x.bucket = ap (λ (c : Change). c.bucket) z.0 ∙ t.bucket in
      dite (ℕ_discrete b.view.done 0)
      (λ d. let l = (q.linked kind d).1 n x (ap (λ (k : ℕ). get_elem? (lives k) n) slot ∙ e) in omega (arith, l.0, wh.1))
      (λ nd. let g = q.gone kind (omega (arith, nd, o.steps b.who b.view b.has)) in
      omega (arith, g, w.1, ap (λ (k : ℕ). times k (chain b.change.bucket)) slot, ap (λ (k : ℕ). times i (chain k)) bucket)))
      b.of) t.state))
      (λ eq. let same : y ≡ x = some-injective y x (sym t.there ∙ (ap (get_elem? (lives i)) eq ∙ e)) in ap (λ (z : Life). z.card) (sym same) ∙ t.card-is w.2)
      (λ gt. absurd (let before = m.lived.order i n t.nth x y e t.there gt in ⊎_elim (λ z. omega (arith, before, wh.1, z, few)) (λ z. omega (arith, before, wh.1, z)) num.linked))

  -- A link is loaded

  copy_sought : (q r : Reader) (x : Life) → r.bucket ≡ q.bucket → r.since ≡ q.since → r.key ≡ q.key → r.least ≡ q.least → q.best ≤ r.best → Sought r x → Sought q x
  copy_sought q r x a b c d e s = record {
    mine = s.mine ∙ a;
    before = let z = s.before in omega (arith, b);
    still = s.still;
    enough = let z = s.enough in omega (arith, d, ap (λ (k : Packet). rank_of k x.card) c);
    better = let z = s.better in omega (arith, e, ap (λ (k : Packet). rank_of k x.card) c);
  }

  -- the first slot of a way is of the chain, or the lookup has strayed
  first_of_way : (q : Reader) (i : ℕ) → Wy q → q.link ≡ 2 * i → Chained q i ⊎ Strays q
  first_of_way q i w at = ⊎_elim (λ z. on w.way w.leads z.each) inr w.track
    where
      on : (xs : List ℕ) → Path Nx q.link xs (2 * w.end + 1) → Each (InChain B chain lives q.since (word 0) q.bucket) xs → Chained q i ⊎ Strays q
      on [] path a = absurd (even-odd i w.end (sym at ∙ path))
      on (y ∷ ys) path a = let same : y ≡ i = let z = path.0 in omega (arith, at) in inl (subst (InChain B chain lives q.since (word 0) q.bucket) same a.0)

  -- it is a slot's, or its bucket's own end
  pub stands_at : (q : Reader) (r : ℕ) → q.since ≤ word 0 → Each (StopOk lives q.since (word 0) layout.shape.slots q.bucket) q.stops → Finds q r → Wy (standing q r) → Rd (standing q r)
  stands_at q r low stops finds way = record {
    low = low;
    finds = λ on i n x e s. finds i n x e (copy_sought q (standing q r) x refl refl refl refl (omega arith) s);
    way = λ on. way;
    peeked = dite (ℕ_discrete (r % 2) 0)
        (λ e. subst (λ (b : Bool). Each (Pk q.since q.bucket) (cond b (record { slot = r / 2; words = [] } ∷ []) [])) (sym (eq-eqb (r % 2) 0 e))
        (record { sure = λ n x e a b w y h z. absurd (some-ne-none y (sym z)); same = λ w y h z. absurd (some-ne-none y (sym z)); of = first_of_way (standing q r) (r / 2) way (omega (arith, e)) }, tt))
        (λ ne. subst (λ (b : Bool). Each (Pk q.since q.bucket) (cond b (record { slot = r / 2; words = [] } ∷ []) [])) (sym (ne_eqb (r % 2) 0 ne)) tt);
    stops = stops;
  }

  -- a pass stops
  pub stops_at : (q : Reader) (kind a : ℕ) → q.since ≤ word 0 → Each (StopOk lives q.since (word 0) layout.shape.slots q.bucket) q.stops → StopOk lives q.since (word 0) layout.shape.slots q.bucket (record { kind = kind; at = a }) → Rd (stopping q kind a)
  stops_at q kind a low stops cause = record {
    low = low;
    finds = λ on. absurd (omega (arith, on));
    way = λ on. absurd (omega (arith, on));
    peeked = tt;
    stops = each_append (StopOk lives q.since (word 0) layout.shape.slots q.bucket) q.stops (record { kind = kind; at = a } ∷ []) stops (cause, tt);
  }

  -- a link to a slot is to one of the table
  pub near_slot : (q : Reader) (r : ℕ) → Wy (standing q r) → r % 2 ≡ 0 → r / 2 < layout.shape.slots
  near_slot q r w even = on w.way w.leads w.slots-ok
    where
      on : (xs : List ℕ) → Path Nx r xs (2 * w.end + 1) → Each (λ (i : ℕ). (i < layout.shape.slots) × ((0 < Lk i) ⊎ SlotMet lives q.since (word 0) i)) xs → r / 2 < layout.shape.slots
      on [] path a = absurd (omega (arith, path, even))
      on (x ∷ xs) path a = let z = path.0 in let y = a.0.0 in omega arith

  -- too many links
  pub too_long : (q : Reader) (r : ℕ) → Wy (standing q r) → layout.shape.slots < q.followed → q.followed ≤ layout.shape.slots + 1 → StopOk lives q.since (word 0) layout.shape.slots q.bucket (record { kind = 3; at = q.followed })
  too_long q r w more at-most = record {
    known = omega arith;
    foreign = λ k. absurd (omega (arith, k));
    slot = λ k. absurd (⊎_elim (λ z. omega (arith, z)) (λ z. omega (arith, z)) k);
    long = λ k. (omega arith, ⊎_elim (λ z. absurd (omega (arith, z))) (λ z. z) w.long);
    dead = λ k. absurd (omega (arith, k));
    astray = λ k. ⊎_elim (λ z. absurd (let s = z.short in omega (arith, s, more))) (λ z. z) w.track;
  }

  -- another bucket's end
  pub foreign_end : (q : Reader) (r : ℕ) → Wy (standing q r) → r % 2 ≡ 1 → r ≢ 2 * q.bucket + 1 → StopOk lives q.since (word 0) layout.shape.slots q.bucket (record { kind = 0; at = r / 2 })
  foreign_end q r w odd other = on w.way w.leads
    where
      on : (xs : List ℕ) → Path Nx r xs (2 * w.end + 1) → StopOk lives q.since (word 0) layout.shape.slots q.bucket (record { kind = 0; at = r / 2 })
      on [] path = let is : w.end ≡ r / 2 = omega (arith, path) in record {
        known = omega arith;
        foreign = λ k. ((λ z. other (omega (arith, z, odd))), ⊎_elim (λ z. absurd (other (path ∙ ap (λ (b : ℕ). 2 * b + 1) z))) (λ z. subst (λ (e : ℕ). HashMet lives q.since (word 0) (λ b. b ≡ e)) is z) w.foreign);
        slot = λ k. absurd (⊎_elim (λ z. omega (arith, z)) (λ z. omega (arith, z)) k);
        long = λ k. absurd (omega (arith, k));
        dead = λ k. absurd (omega (arith, k));
        astray = λ k. ⊎_elim (λ z. absurd (other (path ∙ ap (λ (b : ℕ). 2 * b + 1) z.own))) (λ z. z) w.track;
      }
      on (x ∷ xs) path = absurd (let z = path.0 in omega arith)

  -- it is the end of a bucket of the table
  pub near_end : (q : Reader) (r : ℕ) → Wy (standing q r) → r % 2 ≡ 1 → r / 2 < B
  near_end q r w odd = on w.way w.leads
    where
      on : (xs : List ℕ) → Path Nx r xs (2 * w.end + 1) → r / 2 < B
      on [] path = let is : w.end ≡ r / 2 = omega (arith, path) in let n = w.near in omega (arith, is)
      on (x ∷ xs) path = absurd (let z = path.0 in omega arith)

  -- the head is loaded: no life that is sought is missed, and the way is the chain
  pub from_head : (q : Reader) → q.since ≤ word 0 → q.bucket < B → q.followed ≡ 0 → Finds q (word (head_at q.bucket)) × Wy (standing q (word (head_at q.bucket)))
  from_head q low near none = let path = p.chains.paths q.bucket near in (
    (λ i n x e s. meets Nx q.bucket i (word (head_at q.bucket)) q.bucket (chain q.bucket) path
        (λ _. subst (λ (b : ℕ). 0 < times i (chain b)) s.mine (m.linked.whole i n x e (let z = s.before in omega (arith, low, few), s.still)).1)),
    record {
      way = chain q.bucket;
      end = q.bucket;
      near = near;
      leads = path;
      slots-ok = each_in' (chain q.bucket) (λ i h. (dite (dec_le layout.shape.slots i) (λ g. absurd (omega (arith, h, p.chains.inside i g, linked_le i chain q.bucket B near))) (λ n. omega (arith, n)), inl (omega (arith, h, linked_le i chain q.bucket B near))));
      foreign = inl refl;
      long = inl (omega (arith, none, chain_short q.bucket near));
      track = inl record { own = refl; short = omega (arith, none, chain_short q.bucket near); each = each_in' (chain q.bucket) (λ i h. inl (near, h)) };
    },
  )
    where
      each_in' : {P : ℕ → Type 0} (xs : List ℕ) → ((i : ℕ) → 0 < times i xs → P i) → Each P xs
      each_in' [] f = tt
      each_in' (x ∷ xs) f = (f x (omega (arith, times-here x xs)), each_in' xs (λ i h. f i (let z : times i (x ∷ xs) ≡ cond (eqb x i) 1 0 + times i xs = refl in omega (arith, z))))

  -- the link of a slot that is passed over is loaded
  pub from_link : (q : Reader) (i a b : ℕ) (s : Seen) → Rd q → q.walking ≡ 1 → q.link ≡ 2 * i → q.peeked ≡ s ∷ [] → s.slot ≡ i → s.words ≡ a ∷ b ∷ [] → (rank q.key a b < q.least) ⊎ (rank q.key a b ≤ q.best)
      → Finds (record q { followed = q.followed + 1 }) (Nx i) × Wy (standing (record q { followed = q.followed + 1 }) (Nx i))
  from_link q i a b s o on at peek slot words passed =
      let low = o.low in
      let pk : Pk q.since q.bucket s = (subst (Each (Pk q.since q.bucket)) peek o.peeked).0 in
      let not-it : (j n : ℕ) (x : Life) → get_elem? (lives j) n ≡ some x → Sought q x → i ≢ j = λ j n x e t z.
      let there : get_elem? (lives s.slot) n ≡ some x = ap (λ (k : ℕ). get_elem? (lives k) n) (slot ∙ z) ∙ e in
      let first : slice_index x.card 0 ≡ a = pk.sure n x there t.before t.still 0 a (omega arith) (ap (λ (l : List ℕ). get_elem? l 0) words) in
      let second : slice_index x.card 1 ≡ b = pk.sure n x there t.before t.still 1 b (omega arith) (ap (λ (l : List ℕ). get_elem? l 1) words) in
      let same : rank_of q.key x.card ≡ rank q.key a b = ap (λ (k : ℕ). rank q.key k (slice_index x.card 1)) first ∙ ap (rank q.key a) second in
      let enough = t.enough in let better = t.better in ⊎_elim (λ z. omega (arith, z, same)) (λ z. omega (arith, z, same)) passed in (
        (λ j n x e t miss. let t' = copy_sought q (record q { followed = q.followed + 1 }) x refl refl refl refl (omega arith) t in
            o.finds on j n x e t' (passes q.link i (Nx i) at (not-it j n x e t') refl miss)),
        onward (o.way on).way (o.way on).leads (o.way on).slots-ok (o.way on).long (o.way on).track,
      )
    where
      onward : (xs : List ℕ) → Path Nx q.link xs (2 * (o.way on).end + 1) → Each (λ (k : ℕ). (k < layout.shape.slots) × ((0 < Lk k) ⊎ SlotMet lives q.since (word 0) k)) xs → (q.followed + length xs ≤ layout.shape.slots) ⊎ HashMet lives q.since (word 0) (λ k. Unit {0}) → OnTrack B layout.shape.slots chain lives (word 0) q xs (o.way on).end ⊎ Strays q → Wy (standing (record q { followed = q.followed + 1 }) (Nx i))
      onward [] path a long track = absurd (even-odd i (o.way on).end (sym at ∙ path))
      onward (y ∷ ys) path a long track = let same : y ≡ i = let z = path.0 in omega (arith, at) in record {
        way = ys;
        end = (o.way on).end;
        near = (o.way on).near;
        leads = subst (λ (j : ℕ). Path Nx (Nx j) ys (2 * (o.way on).end + 1)) same path.1;
        slots-ok = a.1;
        foreign = (o.way on).foreign;
        long = ⊎_elim (λ z. inl (omega (arith, z))) inr long;
        track = ⊎_elim (λ z. inl record { own = z.own; short = let s = z.short in omega (arith, s); each = z.each.1 }) inr track;
      }

  -- what else changes of a lookup leaves its way as it was
  track_same : (q r : Reader) (way : List ℕ) (end : ℕ) → r.bucket ≡ q.bucket → r.since ≡ q.since → r.followed ≡ q.followed → OnTrack B layout.shape.slots chain lives (word 0) q way end ⊎ Strays q → OnTrack B layout.shape.slots chain lives (word 0) r way end ⊎ Strays r
  track_same q r way end bucket since followed = ⊎_elim
      (λ z. inl record { own = z.own ∙ sym bucket; short = let s = z.short in omega (arith, s, followed); each = subst (λ (t : ℕ). Each (InChain B chain lives t (word 0) r.bucket) way) (sym since) (subst (λ (b : ℕ). Each (InChain B chain lives q.since (word 0) b) way) (sym bucket) z.each) })
      (λ z. inr (subst (λ (t : ℕ). Strayed lives t (word 0) r.bucket) (sym since) (subst (Strayed lives q.since (word 0)) (sym bucket) z)))

  -- A card word is loaded without a count
  pub glances : (q : Reader) (s : Seen) → Rd q → q.peeked ≡ s ∷ [] → length s.words < 4 → Rd (glancing q (Cd s.slot (length s.words)))
  glances q s o peek room =
      let r : ℕ = Cd s.slot (length s.words) in
      let s' : Seen = record { slot = s.slot; words = s.words ++ r ∷ [] } in
      let pk : Pk q.since q.bucket s = (subst (Each (Pk q.since q.bucket)) peek o.peeked).0 in
      let low = o.low in
      record {
        low = low;
        finds = λ on i n x e t. o.finds on i n x e (copy_sought q (glancing q r) x refl refl refl refl (omega arith) t);
        way = λ on. let w = o.way on in record { way = w.way; end = w.end; near = w.near; leads = w.leads; slots-ok = w.slots-ok; foreign = w.foreign; long = w.long; track = track_same q (glancing q r) w.way w.end refl refl refl w.track };
        peeked = subst (λ (l : List Seen). Each (Pk q.since q.bucket) (knowing l r)) (sym peek) (
          record {
            sure = λ n x e before still w y h z. ⊎_elim (λ t. pk.sure n x e before still w y h t.0)
                (λ t. ap (λ (l : List ℕ). slice_index l w) (whole_card s.slot n x e (omega (arith, before, low, few), still)) ∙ (word_of_card Cd s.slot w h ∙ (ap (Cd s.slot) t.1 ∙ t.0)))
                (at_end s.words r y w z);
            same = λ w y h z. ⊎_elim (λ t. pk.same w y h t.0) (λ t. inl (ap (Cd s.slot) t.1 ∙ t.0)) (at_end s.words r y w z);
            of = pk.of;
          },
          tt,
        );
        stops = o.stops;
      }

  -- A count is taken

  -- LIVE stands where the slot is linked and lit
  pub live_slot : (i : ℕ) → i < layout.shape.slots → IsLive (word (at layout i 0)) → (Lk i ≡ 1) × (dark_of vs i ≡ 0) × (total (owns i) (map slot_part vs) ≡ 0)
  live_slot i near live = let c = counts_small layout.shape.slots _ _ (map slot_part vs) p.slots i in
      let w = p.slots.word i near in let q = p.slots.once i near in let l = p.slots.lit i near in (omega arith, omega arith, omega arith)

  pub dead_slot : (i : ℕ) → i < layout.shape.slots → (IsLive (word (at layout i 0)) → ⊥) → 0 < Lk i → 0 < dark_of vs i
  dead_slot i near dead linked = dite (ℕ_discrete (dark_of vs i) 0)
      (λ z. absurd (dead (let w = p.slots.word i near in let q = p.slots.once i near in omega (arith, z)))) (λ ne. omega (arith, ne))

  -- a life of a linked slot that is open meets the call
  busy_met : (i n : ℕ) (x : Life) → get_elem? (lives i) n ≡ some x → Busy vs i x → (t₀ : ℕ) → t₀ ≤ word 0 → SlotMet lives t₀ (word 0) i
  busy_met i n x e b t₀ low =
      let q = m.book.opened b.who b.nth (book_part b.view) b.change (at_map book_part vs b.who b.view b.has) b.is in
      record {
        nth = n;
        life = x;
        there = e;
        meets = ⊎_elim
            (λ z. inl (omega (arith, q.0, ap (λ (c : Change). c.begins) z), omega (arith, q.1, ap (λ (c : Change). c.ends) z, low, few)))
            (λ z. inr (omega (arith, q.0, ap (λ (c : Change). c.begins) z.0), omega (arith, q.1, ap (λ (c : Change). c.ends) z.0, low, few))) b.of;
      }

  -- without LIVE a change of a slot that was linked meets the call
  pub dead_met : (i : ℕ) → i < layout.shape.slots → (IsLive (word (at layout i 0)) → ⊥) → 0 < Lk i → (t₀ : ℕ) → t₀ ≤ word 0 → SlotMet lives t₀ (word 0) i
  dead_met i near dead linked t₀ low =
      let d = dead_slot i near dead linked in
      let f = linked_where i chain B linked in
      let t = m.linked.links f.0 i f.1 f.2 in
      ⊎_elim (λ z. let w = m.linked.whole i t.nth t.life t.there z in absurd (omega (arith, d, w.2))) (λ z. busy_met i t.nth t.life t.there z t₀ low) t.state

  -- and one of a slot that is of the chain stood
  dead_stood : (q : Reader) (i : ℕ) → q.since ≤ word 0 → Chained q i → LifeStood lives q.since (word 0) q.bucket i
  dead_stood q i low (inr left) = let num = m.lived.numbers i left.nth left.life left.there in record { nth = left.nth; life = left.life; there = left.there; bucket-is = left.bucket-is; begun = num.begun; left = left.left.1 }
  dead_stood q i low (inl t) =
      let l = m.linked.links q.bucket i t.0 t.1 in
      let num = m.lived.numbers i l.nth l.life l.there in
      let still : l.life.leaving ≡ open-end → q.since ≤ l.life.left = λ z. omega (arith, num.still z, low, few) in
      record {
        nth = l.nth;
        life = l.life;
        there = l.there;
        bucket-is = l.bucket;
        begun = num.begun;
        left = ⊎_elim (λ z. still z.1)
            (λ b. let c = m.book.opened b.who b.nth (book_part b.view) b.change (at_map book_part vs b.who b.view b.has) b.is in ⊎_elim
            (λ z. let open-hash : l.life.linked ≡ open-end = sym (ap (λ (c : Change). c.ends) z) ∙ c.1 in
            still (⊎_elim (λ r. ⊎_elim (λ u. absurd (omega (arith, r, u, open-hash, few))) (λ u. u) num.leaving) (λ r. r) num.order))
            (λ z. omega (arith, c.1, ap (λ (c : Change). c.ends) z.0, low, few)) b.of) l.state;
      }

  -- without LIVE no card stands in the slot
  dead_none : (t₀ i : ℕ) → t₀ ≤ word 0 → i < layout.shape.slots → (IsLive (word (at layout i 0)) → ⊥) → NoneStayed lives t₀ (word 0) i
  dead_none t₀ i low near dead n x e before still =
      let end : x.leaving ≡ open-end = ⊎_elim (λ z. absurd (omega (arith, z, still))) (λ z. z) (m.lived.numbers i n x e).leaving in
      let w = m.linked.whole i n x e (omega (arith, before, low, few), end) in
      let d = dead_slot i near dead (omega (arith, w.1, linked_le i chain x.bucket B w.0)) in omega (arith, d, w.2)

  -- with LIVE the count keeps its slot's card, and a life with that card stands
  pub live_kept : (i since : ℕ) → i < layout.shape.slots → IsLive (word (at layout i 0)) → since ≤ word 0 → Kp (record { slot = i; since = since; words = [] })
  live_kept i since near live low =
      let l = live_slot i near live in
      let f = linked_where i chain B (omega (arith, l.0)) in
      let t = m.linked.links f.0 i f.1 f.2 in
      let num = m.lived.numbers i t.nth t.life t.there in
      record {
        known = λ w x h e. absurd (some-ne-none x (sym e));
        low = low;
        nth = t.nth;
        life = t.life;
        there = t.there;
        card-is = t.card-is l.1;
        begun = num.begun;
        left = ⊎_elim (λ z. omega (arith, num.still z.1, low, few))
            (λ b. let q = m.book.opened b.who b.nth (book_part b.view) b.change (at_map book_part vs b.who b.view b.has) b.is in ⊎_elim
            (λ z. let open-hash : t.life.linked ≡ open-end = sym (ap (λ (c : Change). c.ends) z) ∙ q.1 in
            let still : t.life.leaving ≡ open-end = ⊎_elim (λ r. ⊎_elim (λ u. absurd (omega (arith, r, u, open-hash, few))) (λ u. u) num.leaving) (λ r. r) num.order in omega (arith, num.still still, low, few))
            (λ z. omega (arith, q.1, ap (λ (c : Change). c.ends) z.0, low, few)) b.of) t.state;
        newest = λ k y e lt. absurd (linked_newest f.0 i f.1 f.2 k y e lt);
      }

  -- the first slot of a way
  way_first : (q : Reader) (i : ℕ) → Wy q → q.link ≡ 2 * i → (0 < Lk i) ⊎ SlotMet lives q.since (word 0) i
  way_first q i w at = on w.way w.leads w.slots-ok
    where
      on : (xs : List ℕ) → Path Nx q.link xs (2 * w.end + 1) → Each (λ (k : ℕ). (k < layout.shape.slots) × ((0 < Lk k) ⊎ SlotMet lives q.since (word 0) k)) xs → (0 < Lk i) ⊎ SlotMet lives q.since (word 0) i
      on [] path a = absurd (even-odd i w.end (sym at ∙ path))
      on (y ∷ ys) path a = let same : y ≡ i = let z = path.0 in omega (arith, at) in subst (λ (k : ℕ). (0 < Lk k) ⊎ SlotMet lives q.since (word 0) k) same a.0.1

  slot_stop : (q : Reader) (kind i : ℕ) → (kind ≡ 1) ⊎ (kind ≡ 2) → SlotMet lives q.since (word 0) i → (kind ≡ 1 → (LifeStood lives q.since (word 0) q.bucket i ⊎ Strays q) × NoneStayed lives q.since (word 0) i) → (kind ≢ 1 → Strays q) → StopOk lives q.since (word 0) layout.shape.slots q.bucket (record { kind = kind; at = i })
  slot_stop q kind i which met dead astray = record {
    known = ⊎_elim (λ z. omega (arith, z)) (λ z. omega (arith, z)) which;
    foreign = λ k. absurd (⊎_elim (λ z. omega (arith, z, k)) (λ z. omega (arith, z, k)) which);
    slot = λ k. met;
    long = λ k. absurd (⊎_elim (λ z. omega (arith, z, k)) (λ z. omega (arith, z, k)) which);
    dead = dead;
    astray = astray;
  }

  -- the slot at the link has no LIVE: the pass stops
  pub dead_stop : (q : Reader) (i : ℕ) → Rd q → q.walking ≡ 1 → q.link ≡ 2 * i → i < layout.shape.slots → (IsLive (word (at layout i 0)) → ⊥) → Rd (stopping q 1 i)
  dead_stop q i o on at near dead = stops_at q 1 i o.low o.stops (slot_stop q 1 i (inl refl) (⊎_elim (λ z. dead_met i near dead z q.since o.low) (λ z. z) (way_first q i (o.way on) at))
      (λ k. (⊎_elim (λ z. inl (dead_stood q i o.low z)) inr (first_of_way q i (o.way on) at), dead_none q.since i o.low near dead)) (λ k. absurd (k refl)))

  -- A card word is loaded under a count
  pub learns : (h : Kept) → Kp h → length h.words < 4 → Kp (record h { words = h.words ++ Cd h.slot (length h.words) ∷ [] })
  learns h o room = record {
    known = seen_reads Cd (record { slot = h.slot; words = h.words }) (Cd h.slot (length h.words)) refl o.known;
    low = o.low;
    nth = o.nth;
    life = o.life;
    there = o.there;
    card-is = o.card-is;
    begun = o.begun;
    left = o.left;
    newest = o.newest;
  }

  -- the rank is the one of before, and becomes the best's
  pub judged_same : (q : Reader) (k : ℕ) → Rd q → q.best ≤ k → Rd (record q { best = k })
  judged_same q k o more = record {
    low = o.low;
    finds = λ on i n x e t. o.finds on i n x e (copy_sought q (record q { best = k }) x refl refl refl refl more t);
    way = λ on. let w = o.way on in record { way = w.way; end = w.end; near = w.near; leads = w.leads; slots-ok = w.slots-ok; foreign = w.foreign; long = w.long; track = track_same q (record q { best = k }) w.way w.end refl refl refl w.track };
    peeked = o.peeked;
    stops = o.stops;
  }

  -- it is not: the pass stops
  pub judged_other : (q : Reader) (s : Seen) (a b a' b' : ℕ) → Rd q → q.peeked ≡ s ∷ [] → s.words ≡ a ∷ b ∷ [] → Cd s.slot 0 ≡ a' → Cd s.slot 1 ≡ b' → rank q.key a' b' ≢ rank q.key a b → Rd (stopping q 2 s.slot)
  judged_other q s a b a' b' o peek words first second other =
      let pk : Pk q.since q.bucket s = (subst (Each (Pk q.since q.bucket)) peek o.peeked).0 in
      let cause : SlotMet lives q.since (word 0) s.slot × Strays q = (⊎_elim
      (λ z. ⊎_elim (λ y. absurd (other (ap (λ (k : ℕ). rank q.key k b') (sym first ∙ z) ∙ ap (rank q.key a) (sym second ∙ y)))) (λ y. y) (pk.same 1 b (omega arith) (ap (λ (l : List ℕ). get_elem? l 1) words)))
      (λ z. z) (pk.same 0 a (omega arith) (ap (λ (l : List ℕ). get_elem? l 0) words))) in
      stops_at q 2 s.slot o.low o.stops (slot_stop q 2 s.slot (inr refl) cause.0 (λ k. absurd (omega (arith, k))) (λ k. cause.1))

  -- A lookup ends

  -- at its bucket's own end no life is better
  pub end_none_better : (q : Reader) → Rd q → q.walking ≡ 1 → q.link ≡ 2 * q.bucket + 1 → NoneBetter lives q.since (word 0) q.bucket q.key q.least q.best
  end_none_better q o on at i n x e mine enough better before still = o.finds on i n x e
      record { mine = mine; before = before; still = ⊎_elim (λ z. absurd (omega (arith, z, still))) (λ z. z) (m.lived.numbers i n x e).leaving; enough = enough; better = better } (ends q.link at)

  rank_small : (key : Packet) (a b : ℕ) → rank key a b ≤ 5
  rank_small key a b = word_rank_most key a b

  pub best_none_better : (t₀ bucket : ℕ) (key : Packet) (least : ℕ) → NoneBetter lives t₀ (word 0) bucket key least 5
  best_none_better t₀ bucket key least i n x e mine enough better before still = let z = rank_small key (slice_index x.card 0) (slice_index x.card 1) in omega (arith, z, better)

  pub receipt_none : (q : Reader) → Rd q → q.walking ≡ 1 → q.link ≡ 2 * q.bucket + 1 → q.best ≡ 0 → ReceiptOk layout.shape.slots lives (word 0) (receipt q 0 [] (word 0))
  receipt_none q o on at none = record {
    span = (o.low, omega arith);
    none = λ k. subst (NoneBetter lives q.since (word 0) q.bucket q.key q.least) none (end_none_better q o on at);
    found = λ k. absurd (omega (arith, k));
    again = λ k. absurd (omega (arith, k));
  }

  pub receipt_again : (q : Reader) → Rd q → 0 < length q.stops → ReceiptOk layout.shape.slots lives (word 0) (receipt q 2 [] (word 0))
  receipt_again q o some-stops = record { span = (o.low, omega arith); none = λ k. absurd (omega (arith, k)); found = λ k. absurd (omega (arith, k)); again = λ k. (some-stops, o.stops) }

  -- a card that was loaded whole under a count is that of the life that stood
  pub kept_card : (h : Kept) (a b c d : ℕ) (kp : Kp h) → h.words ≡ a ∷ b ∷ c ∷ d ∷ [] → kp.life.card ≡ h.words
  kept_card h a b c d kp words = kp.card-is ∙ (four h.words a b c d words kp.known ∙ sym words)
    where
      four : (ws : List ℕ) (a b c d : ℕ) → ws ≡ a ∷ b ∷ c ∷ d ∷ [] → SeenOk Cd (record { slot = h.slot; words = ws }) → words_at Cd h.slot ≡ a ∷ b ∷ c ∷ d ∷ []
      four ws a b c d e ok =
          let z0 = ok 0 a (omega arith) (ap (λ (l : List ℕ). get_elem? l 0) e) in let z1 = ok 1 b (omega arith) (ap (λ (l : List ℕ). get_elem? l 1) e) in let z2 = ok 2 c (omega arith) (ap (λ (l : List ℕ). get_elem? l 2) e) in let z3 = ok 3 d (omega arith) (ap (λ (l : List ℕ). get_elem? l 3) e) in
          λ k. z0 k ∷ z1 k ∷ z2 k ∷ z3 k ∷ []

  -- so it stood, and may be put as sighted
  pub kept_sighted : (h : Kept) (a b c d : ℕ) → Kp h → h.words ≡ a ∷ b ∷ c ∷ d ∷ [] → SightedOk lives (word 0) (record { since = h.since; card = h.words })
  kept_sighted h a b c d kp words = record {
    low = kp.low;
    some-words = omega (arith, ap (length {A = ℕ}) words);
    stood = record { slot = h.slot; nth = kp.nth; life = kp.life; there = kp.there; card-is = kept_card h a b c d kp words; begun = kp.begun; left = kp.left; newest = kp.newest };
  }

  pub receipt_found : (q : Reader) (h : Kept) (a b c d : ℕ) → Rd q → Kp h → h.words ≡ a ∷ b ∷ c ∷ d ∷ [] → q.since ≤ h.since → q.best ≡ rank_of q.key h.words → q.least ≤ q.best → ((q.walking ≡ 1) × (q.link ≡ 2 * q.bucket + 1)) ⊎ (q.best ≡ 5)
      → ReceiptOk layout.shape.slots lives (word 0) (receipt q 1 h.words (word 0))
  receipt_found q h a b c d o kp words later best enough end = record {
    span = (o.low, omega arith);
    none = λ k. absurd (omega (arith, k));
    found = λ k. (
      record {
        slot = h.slot;
        nth = kp.nth;
        life = kp.life;
        there = kp.there;
        card-is = kept_card h a b c d kp words;
        begun = kp.begun;
        left = let z = kp.left in omega (arith, later);
        newest = λ k y e lt. let z = kp.newest k y e lt in omega (arith, later);
      },
      omega (arith, best, enough),
      omega (arith, ap (length {A = ℕ}) words),
      subst (NoneBetter lives q.since (word 0) q.bucket q.key q.least) best (⊎_elim (λ z. end_none_better q o z.0 z.1) (λ z. subst (NoneBetter lives q.since (word 0) q.bucket q.key q.least) (sym z) (best_none_better q.since q.bucket q.key q.least)) end),
    );
    again = λ k. absurd (omega (arith, k));
  }
