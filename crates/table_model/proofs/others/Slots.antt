-- What stands in a slot, and isn't in TIME_WAIT, stays there while a plan is carried out that unhashes nothing from
-- that slot.
use Rattle.std.proofs.Common.{◌≡◌, ◌≢◌, ℕ, ◌+◌, ◌<◌, ◌≤◌, ◌==◌, Bool, true, false, ◌&&◌, not, cond, List, [], ◌∷◌, filter, find, length, get_or, set, Option, Some, None, refl, ap, sym, ◌∙◌, subst, inl, inr, ◌⊎◌, arith}
use Rattle.std.proofs.lemmas.Bool.{cases_eq, cases_lt, eq-eqb, eqb-true, ne_eqb, and_parts}
use Rattle.std.proofs.lemmas.List.{get_or-set_same, get_or-set_other, set_past}
use Rattle.list_words.specs.Lists.{total}
use Rattle.list_words.proofs.EachLemmas.{found_passes, some_same}
use Rattle.list_words.proofs.TotalLemmas.{total-filter}
use Rattle.sock_card.specs.declared.card.Card.{Card}
use Rattle.sock_card.specs.TimeWait.{is_time_wait_kind}
use Rattle.bind_buckets.specs.BindHash.{answer_at, asked_at}
use Rattle.chain_book.specs.declared.outcome.Hashed.{Hashed}
use Rattle.chain_book.specs.declared.outcome.Place.{Place}
use Rattle.chain_book.specs.declared.outcome.Replace.{Replace}
use Rattle.chain_book.specs.Chains.{Chains, Outcome, row_at, home_in, has_slot, placed, unhashed, hashed, without_replaced, insert_outcome, add_outcome, tried, slot_outcome, keeps, waits, waits_as, waiting}
use Rattle.chain_book.specs.Slots.{free_slot}
use Rattle.chain_book.specs.Tuples.{same_cards}
use Rattle.table_model.specs.Asking.{Asking, ends, asks, inserts, adds, unhashes, reaps, impossible}
use Rattle.table_model.specs.Tables.{Tables, Ended, run, with_buckets, with_chains, reaped, was_found}
use Rattle.table_model.specs.Own.{Mine}
use Rattle.table_model.proofs.commands.Asks.{FitsPort, AsksOnly}
use Rattle.table_model.proofs.lists.Passing.{ind, found_counts}
use Rattle.table_model.proofs.lists.Rows.{weigh, weigh_set, row_least, weigh_sum}
use Rattle.table_model.proofs.parts.Slots.{free_is}
use Rattle.table_model.proofs.parts.Places.{stands_test}

-- in a place's slot and under its name, and not in TIME_WAIT
abbrev pub awake_test : Mine → Hashed → Bool
awake_test w x = stands_test w x && not (is_time_wait_kind x.card.kind)

-- it stands in its place, alone in its slot, which is used
pub record Keeps (w : Mine) (card : Card) (c : Chains) : Type 0 where
  pub one : weigh (ind (has_slot w.place.slot)) c.rows ≤ 1
  pub there : 1 ≤ total (ind (awake_test w)) (row_at c w.place.bucket)
  pub used : get_or c.slots.used w.place.slot false ≡ true
  pub home : w.place.bucket ≡ home_in c card

module _ {A : Type 0} where
  total_most : (f g : A → ℕ) (xs : List A) → ((x : A) → f x ≤ g x) → total f xs ≤ total g xs
  total_most f g [] h = omega arith
  total_most f g (x ∷ xs) h = omega (arith, h x, total_most f g xs h)

  -- rows weigh no more where no item does
  pub weigh_most : (f g : A → ℕ) (rows : List (List A)) → ((x : A) → f x ≤ g x) → weigh f rows ≤ weigh g rows
  weigh_most f g [] h = omega arith
  weigh_most f g (r ∷ rs) h = omega (arith, total_most f g r h, weigh_most f g rs h)

  left_at : (p : A → Bool) (b c : Bool) (x : A) (ys xs : List A) → p x ≡ c → (c ≡ true → b ≡ true) → total (ind p) xs ≤ total (ind p) ys → cond {A = ℕ} c 1 0 + total (ind p) xs ≤ total (ind p) (cond b (x ∷ ys) ys)
  left_at p true c x ys xs e h l = omega (arith, l, ap (λ (b : Bool). cond {A = ℕ} b 1 0) e)
  left_at p false true x ys xs e h l = absurd (let no : false ≡ true = h refl in cc)
  left_at p false false x ys xs e h l = omega (arith, l)

  -- those that pass are left
  pub all_left : (p q : A → Bool) (xs : List A) → ((x : A) → p x ≡ true → q x ≡ true) → total (ind p) xs ≤ total (ind p) (filter q xs)
  all_left p q [] h = omega arith
  all_left p q (x ∷ xs) h = left_at p (q x) (p x) x (filter q xs) xs refl (h x) (all_left p q xs h)

-- two tests of which none passes both weigh no more than a third, where each asks for that
two_in_one : (s a b : Bool) → cond {A = ℕ} (s && a && not b) 1 0 + cond {A = ℕ} (s && b) 1 0 ≤ cond {A = ℕ} s 1 0
two_in_one true true true = omega arith
two_in_one true true false = omega arith
two_in_one true false true = omega arith
two_in_one true false false = omega arith
two_in_one false a b = omega arith

not_equal : (k slot : ℕ) → (k == slot) ≡ false → k ≢ slot
not_equal k slot e same = absurd (let yes : (k == slot) ≡ true = eq-eqb k slot same in cc)

-- in another slot than that
abbrev pub Elsewhere : ℕ → Place → Card → Type 0
Elsewhere slot place card = place.slot ≢ slot

module _ (w : Mine) (card : Card) where
  abbrev k : ℕ
  k = w.place.slot

  -- a TIME_WAIT that is found stands in another slot
  pub other_slot : (c : Chains) → Keeps w card c → (b : ℕ) (test : Hashed → Bool) (x : Hashed) → find test (row_at c b) ≡ Some x → is_time_wait_kind x.card.kind ≡ true → x.slot ≢ k
  other_slot c h b test x found waits same =
      let p : Hashed → Bool = λ y. has_slot k y && is_time_wait_kind y.card.kind in
      let passes : p x ≡ true = rw (eq-eqb x.slot k same, waits) refl in
      omega (
        arith,
        found_counts p test (row_at c b) x found passes,
        row_least (ind p) c.rows b,
        h.there,
        row_least (ind (awake_test w)) c.rows w.place.bucket,
        weigh_sum (ind (awake_test w)) (ind p) c.rows,
        weigh_most (λ y. ind (awake_test w) y + ind p y) (ind (has_slot k)) c.rows (λ y. two_in_one (has_slot k y) (y.card.name == w.owner.name) (is_time_wait_kind y.card.kind)),
        h.one,
      )

  slot_differs : (used : List Bool) (slot : ℕ) → get_or used slot false ≡ false → get_or used k false ≡ true → k ≢ slot
  slot_differs used slot free is same = absurd (let no : get_or used k false ≡ false = ap (λ j. get_or used j false) same ∙ free in cc)

  not_in : (slot : ℕ) (new : Card) → k ≢ slot → ind (has_slot k) (record { slot = slot; card = new }) ≡ 0
  not_in slot new d = ap (λ (b : Bool). cond {A = ℕ} b 1 0) (ne_eqb slot k (λ e. d (sym e)))

  row_placed : (c : Chains) (b slot : ℕ) (new : Card) (j : ℕ) → (j ≡ b) ⊎ (j ≢ b) → b < length c.rows → total (ind (awake_test w)) (row_at c j) ≤ total (ind (awake_test w)) (row_at (placed c b slot new) j)
  row_placed c b slot new j (inl e) l =
      let more : List Hashed = record { slot = slot; card = new } ∷ row_at c b in
      let here : get_or (set c.rows b more) j [] ≡ more = ap (λ i. get_or (set c.rows b more) i []) e ∙ get_or-set_same c.rows b more [] l in
      omega (arith, ap (λ (r : List Hashed). total (ind (awake_test w)) r) here, ap (λ i. total (ind (awake_test w)) (row_at c i)) e)
  row_placed c b slot new j (inr q) l =
      let more : List Hashed = record { slot = slot; card = new } ∷ row_at c b in
      omega (arith, ap (λ (r : List Hashed). total (ind (awake_test w)) r) (get_or-set_other c.rows b j more [] q))

  placed_by : (c : Chains) (b slot : ℕ) (new : Card) → get_or c.slots.used slot false ≡ false → Keeps w card c → (b < length c.rows) ⊎ (length c.rows ≤ b) → Keeps w card (placed c b slot new)
  placed_by c b slot new free h (inl l) =
      let d : k ≢ slot = slot_differs c.slots.used slot free h.used in
      let more : List Hashed = record { slot = slot; card = new } ∷ row_at c b in
      record {
        one = omega (arith, weigh_set (ind (has_slot k)) c.rows b more l, h.one, not_in slot new d);
        there = omega (arith, h.there, row_placed c b slot new w.place.bucket (cases_eq w.place.bucket b) l);
        used = get_or-set_other c.slots.used slot k true false d ∙ h.used;
        home = h.home;
      }
  placed_by c b slot new free h (inr l) =
      let d : k ≢ slot = slot_differs c.slots.used slot free h.used in
      let more : List Hashed = record { slot = slot; card = new } ∷ row_at c b in
      let same : set c.rows b more ≡ c.rows = set_past c.rows b more l in
      record {
        one = subst (λ (rows : List (List Hashed)). weigh (ind (has_slot k)) rows ≤ 1) (sym same) h.one;
        there = subst (λ (rows : List (List Hashed)). 1 ≤ total (ind (awake_test w)) (get_or rows w.place.bucket [])) (sym same) h.there;
        used = get_or-set_other c.slots.used slot k true false d ∙ h.used;
        home = h.home;
      }

  -- it stays as a card comes into a free slot
  pub keeps_placed : (c : Chains) (b slot : ℕ) (new : Card) → get_or c.slots.used slot false ≡ false → Keeps w card c → Keeps w card (placed c b slot new)
  keeps_placed c b slot new free h = placed_by c b slot new free h (cases_lt b (length c.rows))

  stays_in : (slot : ℕ) → k ≢ slot → (x : Hashed) → awake_test w x ≡ true → not (has_slot slot x) ≡ true
  stays_in slot d x e =
      let here : x.slot ≡ k = eqb-true x.slot k (and_parts (has_slot k x) (x.card.name == w.owner.name) (and_parts (stands_test w x) (not (is_time_wait_kind x.card.kind)) e).0).0 in
      ap not (ne_eqb x.slot slot (λ f. d (sym here ∙ f)))

  row_left : (c : Chains) (b slot : ℕ) (j : ℕ) → k ≢ slot → (j ≡ b) ⊎ (j ≢ b) → b < length c.rows → total (ind (awake_test w)) (row_at c j) ≤ total (ind (awake_test w)) (row_at (unhashed c (record { bucket = b; slot = slot })) j)
  row_left c b slot j d (inl e) l =
      let left : List Hashed = filter (λ x. not (has_slot slot x)) (row_at c b) in
      let here : get_or (set c.rows b left) j [] ≡ left = ap (λ i. get_or (set c.rows b left) i []) e ∙ get_or-set_same c.rows b left [] l in
      omega (
        arith,
        ap (λ (r : List Hashed). total (ind (awake_test w)) r) here,
        ap (λ i. total (ind (awake_test w)) (row_at c i)) e,
        all_left (awake_test w) (λ x. not (has_slot slot x)) (row_at c b) (stays_in slot d),
      )
  row_left c b slot j d (inr q) l =
      let left : List Hashed = filter (λ x. not (has_slot slot x)) (row_at c b) in
      omega (arith, ap (λ (r : List Hashed). total (ind (awake_test w)) r) (get_or-set_other c.rows b j left [] q))

  unhashed_by : (c : Chains) (b slot : ℕ) → k ≢ slot → Keeps w card c → (b < length c.rows) ⊎ (length c.rows ≤ b) → Keeps w card (unhashed c (record { bucket = b; slot = slot }))
  unhashed_by c b slot d h (inl l) =
      let left : List Hashed = filter (λ x. not (has_slot slot x)) (row_at c b) in
      record {
        one = omega (arith, weigh_set (ind (has_slot k)) c.rows b left l, h.one, total-filter (ind (has_slot k)) (λ x. not (has_slot slot x)) (row_at c b));
        there = omega (arith, h.there, row_left c b slot w.place.bucket d (cases_eq w.place.bucket b) l);
        used = get_or-set_other c.slots.used slot k false false d ∙ h.used;
        home = h.home;
      }
  unhashed_by c b slot d h (inr l) =
      let left : List Hashed = filter (λ x. not (has_slot slot x)) (row_at c b) in
      let same : set c.rows b left ≡ c.rows = set_past c.rows b left l in
      record {
        one = subst (λ (rows : List (List Hashed)). weigh (ind (has_slot k)) rows ≤ 1) (sym same) h.one;
        there = subst (λ (rows : List (List Hashed)). 1 ≤ total (ind (awake_test w)) (get_or rows w.place.bucket [])) (sym same) h.there;
        used = get_or-set_other c.slots.used slot k false false d ∙ h.used;
        home = h.home;
      }

  -- it stays as what stood in another slot goes
  pub keeps_unhashed : (c : Chains) (b slot : ℕ) → slot ≢ k → Keeps w card c → Keeps w card (unhashed c (record { bucket = b; slot = slot }))
  keeps_unhashed c b slot d h = unhashed_by c b slot (λ e. d (sym e)) h (cases_lt b (length c.rows))

  replaced_by : (c : Chains) (b slot : ℕ) (new : Card) (old : Option Hashed) → get_or c.slots.used slot false ≡ false → Keeps w card c
      → ((x : Hashed) → old ≡ Some x → x.slot ≢ k) → Keeps w card (without_replaced (placed c b slot new) b old)
  replaced_by c b slot new None free h d = keeps_placed c b slot new free h
  replaced_by c b slot new (Some x) free h d = keeps_unhashed (placed c b slot new) b x.slot (d x refl) (keeps_placed c b slot new free h)

  slot_by : (c : Chains) (new : Card) (o : Option ℕ) (old : Option Hashed) → free_slot c.slots ≡ o → Keeps w card c
      → ((x : Hashed) → old ≡ Some x → x.slot ≢ k) → Keeps w card (hashed c new (slot_outcome c o old))
  slot_by c new None old e h d = h
  slot_by c new (Some slot) old e h d = replaced_by c (home_in c new) slot new old (free_is c.slots slot e).1 h d

  -- as a card is added
  pub keeps_added : (c : Chains) (new : Card) → Keeps w card c → Keeps w card (hashed c new (add_outcome c))
  keeps_added c new h = slot_by c new (free_slot c.slots) None refl h (λ x e. absurd (cc))

  tried_by : (c : Chains) (new : Card) (o old : Option Hashed) → Keeps w card c
      → ((x : Hashed) → old ≡ Some x → x.slot ≢ k) → Keeps w card (hashed c new (tried c o old))
  tried_by c new (Some keeper) old h d = h
  tried_by c new None old h d = slot_by c new (free_slot c.slots) old refl h d

  -- as one is inserted
  pub keeps_inserted : (c : Chains) (new : Card) (moment : ℕ) (rule : Replace) → Keeps w card c → Keeps w card (hashed c new (insert_outcome c new moment rule))
  keeps_inserted c new moment rule h =
      let row : List Hashed = row_at c (home_in c new) in
      tried_by c new (find (keeps new moment rule) row) (find (waits new) row) h
      (λ x e. other_slot c h (home_in c new) (waits new) x e (and_parts (same_cards new x.card) (is_time_wait_kind x.card.kind) (found_passes (waits new) row x e)).1)

  reaped_by : (c : Chains) (gone : Card) (o : Option Hashed) → waiting c gone ≡ o → Keeps w card c → Keeps w card (reaped c gone o)
  reaped_by c gone None e h = h
  reaped_by c gone (Some x) e h =
      let row : List Hashed = row_at c (home_in c gone) in
      keeps_unhashed c (home_in c gone) x.slot
      (other_slot c h (home_in c gone) (waits_as gone.name) x e (and_parts (x.card.name == gone.name) (is_time_wait_kind x.card.kind) (found_passes (waits_as gone.name) row x e)).1) h

  -- a plan that unhashes nothing from the slot, whatever it is answered
  abbrev pub Spares : {R : Type 0} → (R → Type 0) → Asking R → Type 0
  Spares {R} Q plan = AsksOnly FitsPort (λ new. Unit {0}) (Elsewhere k) Q plan

  -- it stays while such a plan is carried out
  pub keeps_run : {R : Type 0} (Q : R → Type 0) (plan : Asking R) (t : Tables) (e : Ended R) → Spares Q plan → Keeps w card t.chains → run t plan ≡ Some e → Keeps w card e.tables.chains
  keeps_run Q (ends r) t e spares h runs = subst (λ (e : Ended _). Keeps w card e.tables.chains) (some_same (record { tables = t; result = r }) e runs) h
  keeps_run Q (asks port request then_) t e spares h runs =
      keeps_run Q (then_ (answer_at t.buckets port request)) (with_buckets t (asked_at t.buckets port request)) e (spares.1 (answer_at t.buckets port request)) h runs
  keeps_run Q (inserts new moment rule then_) t e spares h runs =
      let outcome : Outcome = insert_outcome t.chains new moment rule in
      keeps_run Q (then_ outcome) (with_chains t (hashed t.chains new outcome)) e (spares.1 outcome) (keeps_inserted t.chains new moment rule h) runs
  keeps_run Q (adds new then_) t e spares h runs =
      let outcome : Outcome = add_outcome t.chains in
      keeps_run Q (then_ outcome) (with_chains t (hashed t.chains new outcome)) e (spares.1 outcome) (keeps_added t.chains new h) runs
  keeps_run Q (unhashes place gone then_) t e spares h runs =
      keeps_run Q then_ (with_chains t (unhashed t.chains place)) e spares.1 (keeps_unhashed t.chains place.bucket place.slot spares.0 h) runs
  keeps_run Q (reaps gone then_) t e spares h runs =
      let found : Option Hashed = waiting t.chains gone in
      keeps_run Q (then_ (was_found found)) (with_chains t (reaped t.chains gone found)) e (spares (was_found found)) (reaped_by t.chains gone found refl h) runs
  keeps_run Q impossible t e spares h runs = absurd (cc)
