-- Whether a slot is free, by how many cards stand in slots.
use Rattle.std.proofs.Common.{◌≡◌, ◌≢◌, ℕ, zero, suc, ◌+◌, ◌-◌, ◌<◌, ◌≤◌, ◌==◌, Bool, true, false, cond, List, [], ◌∷◌, ◌++◌, find, length, get_or, Option, Some, None, refl, ap, ◌∙◌, inl, inr, ◌⊎◌, ltb, arith}
use Rattle.std.specs.List.{range_with_len}
use Rattle.std.proofs.lemmas.Bool.{cases_eq, cases_lt, eq-eqb, ne_eqb, not-true, not-false, lt-ltb, le-ltb}
use Rattle.std.proofs.lemmas.List.{get_or_past, get_or_default}
use Rattle.list_words.specs.Lists.{total}
use Rattle.list_words.proofs.EachLemmas.{found_passes}
use Rattle.chain_book.specs.declared.outcome.Hashed.{Hashed}
use Rattle.chain_book.specs.Chains.{has_slot}
use Rattle.chain_book.specs.Slots.{Slots, free_slot, is_free, round}
use Rattle.table_model.specs.Means.{is_used}
use Rattle.table_model.proofs.lists.Passing.{ind}
use Rattle.table_model.proofs.lists.Rows.{weigh, weigh_same, weigh_sum}

in_range : (used : List Bool) (slot : ℕ) → (slot < length used) ⊎ (length used ≤ slot) → get_or used slot true ≡ false → (slot < length used) × (get_or used slot false ≡ false)
in_range used slot (inl l) e = (l, get_or_default used slot false true l ∙ e)
in_range used slot (inr l) e = absurd (let past : get_or used slot true ≡ true = get_or_past used slot true l in cc)

-- the slot that is found is one of them, and not used
pub free_is : (s : Slots) (slot : ℕ) → free_slot s ≡ Some slot → (slot < length s.used) × (get_or s.used slot false ≡ false)
free_is s slot h =
    in_range s.used slot (cases_lt slot (length s.used)) (not-true (get_or s.used slot true) (found_passes (is_free s) (round s) slot h))

first_none : (b : Bool) (x : ℕ) (o both rest : Option ℕ) → (both ≡ None → (o ≡ None) × (rest ≡ None)) → cond b (Some x) both ≡ None → (cond b (Some x) o ≡ None) × (rest ≡ None)
first_none true x o both rest h e = absurd (cc)
first_none false x o both rest h e = h e

front_none : (p : ℕ → Bool) (xs ys : List ℕ) → find p (xs ++ ys) ≡ None → (find p xs ≡ None) × (find p ys ≡ None)
front_none p [] ys h = (refl, h)
front_none p (x ∷ xs) ys h = first_none (p x) x (find p xs) (find p (xs ++ ys)) (find p ys) (front_none p xs ys) h

first_fails : (b : Bool) (x : ℕ) (o : Option ℕ) → cond b (Some x) o ≡ None → (b ≡ false) × (o ≡ None)
first_fails true x o h = absurd (cc)
first_fails false x o h = (refl, h)

range_at : (p : ℕ → Bool) (a k : ℕ) → (k ≡ a) ⊎ (k ≢ a) → p a ≡ false → (a + 1 ≤ k → p k ≡ false) → a ≤ k → p k ≡ false
range_at p a k (inl e) h rest l = ap p e ∙ h
range_at p a k (inr q) h rest l = rest (omega arith)

range_fails : (p : ℕ → Bool) (a n : ℕ) → find p (range_with_len a n) ≡ None → (k : ℕ) → a ≤ k → k < a + n → p k ≡ false
range_fails p a zero h k l m = absurd (omega arith)
range_fails p a (suc n) h k l m =
    let parts = first_fails (p a) a (find p (range_with_len (a + 1) n)) h in
    range_at p a k (cases_eq k a) parts.0 (λ l2. range_fails p (a + 1) n parts.1 k l2 (omega arith)) l

used_by : (s : Slots) (k : ℕ) → (k < s.next) ⊎ (s.next ≤ k) → free_slot s ≡ None → k < length s.used → is_free s k ≡ false
used_by s k (inl l) h m =
    range_fails (is_free s) 0 s.next (front_none (is_free s) (range_with_len s.next (length s.used - s.next)) (range_with_len 0 s.next) h).1 k (omega arith) (omega arith)
used_by s k (inr l) h m =
    range_fails (is_free s) s.next (length s.used - s.next) (front_none (is_free s) (range_with_len s.next (length s.used - s.next)) (range_with_len 0 s.next) h).0 k l (omega arith)

-- where none is found, all are used
pub none_free : (s : Slots) → free_slot s ≡ None → (k : ℕ) → k < length s.used → get_or s.used k false ≡ true
none_free s h k l =
    get_or_default s.used k false true l ∙ not-false (get_or s.used k true) (used_by s k (cases_lt k s.next) h l)

-- how many of the first n slots are used
abbrev pub used_below : List Bool → ℕ → ℕ
used_below used zero = 0
used_below used (suc n) = used_below used n + cond (get_or used n false) 1 0

below_cons : (u : Bool) (us : List Bool) (n : ℕ) → used_below (u ∷ us) (suc n) ≡ cond u 1 0 + used_below us n
below_cons u us zero = omega arith
below_cons u us (suc n) = let before = below_cons u us n in omega (arith, before)

-- how many are used in all
pub below_count : (used : List Bool) → used_below used (length used) ≡ total (ind is_used) used
below_count [] = refl
below_count (u ∷ us) = omega (arith, below_cons u us (length us), below_count us)

-- one slot counts once
pub one_most : (b : Bool) → cond {A = ℕ} b 1 0 ≤ 1
one_most true = omega arith
one_most false = omega arith

below_most : (used : List Bool) (n : ℕ) → used_below used n ≤ n
below_most used zero = omega arith
below_most used (suc n) = omega (arith, below_most used n, one_most (get_or used n false))

below_all : (used : List Bool) (n : ℕ) → ((k : ℕ) → k < n → get_or used k false ≡ true) → used_below used n ≡ n
below_all used zero h = refl
below_all used (suc n) h =
    omega (arith, below_all used n (λ k l. h k (omega arith)), ap (λ (b : Bool). cond {A = ℕ} b 1 0) (h n (omega arith)))

below_at : (used : List Bool) (n k : ℕ) → (n ≡ k) ⊎ (n ≢ k) → get_or used k false ≡ false → (k < n → used_below used n < n) → k < suc n → used_below used (suc n) < suc n
below_at used n k (inl e) h rest l = omega (arith, below_most used n, ap (λ (b : Bool). cond {A = ℕ} b 1 0) (ap (λ (j : ℕ). get_or used j false) e ∙ h))
below_at used n k (inr q) h rest l = omega (arith, rest (omega arith), one_most (get_or used n false))

below_some : (used : List Bool) (n k : ℕ) → get_or used k false ≡ false → k < n → used_below used n < n
below_some used zero k h l = absurd (omega arith)
below_some used (suc n) k h l = below_at used n k (cases_eq n k) h (λ m. below_some used n k h m) l

abbrev is_below : ℕ → Hashed → Bool
is_below n x = ltb x.slot n

one_more_by : (n : ℕ) (k : ℕ) → (k ≡ n) ⊎ (k ≢ n) → (k < n) ⊎ (n ≤ k) → cond {A = ℕ} (ltb k (suc n)) 1 0 ≡ cond {A = ℕ} (ltb k n) 1 0 + cond {A = ℕ} (k == n) 1 0
one_more_by n k (inl e) l = rw (lt-ltb k (suc n) (omega arith), le-ltb k n (omega arith), eq-eqb k n e) refl
one_more_by n k (inr q) (inl l) = rw (lt-ltb k (suc n) (omega arith), lt-ltb k n l, ne_eqb k n q) refl
one_more_by n k (inr q) (inr l) = rw (le-ltb k (suc n) (omega arith), le-ltb k n l, ne_eqb k n q) refl

none_in : (xs : List Hashed) → total (ind (is_below 0)) xs ≡ 0
none_in [] = refl
none_in (x ∷ xs) = omega (arith, ap (λ (b : Bool). cond {A = ℕ} b 1 0) (le-ltb x.slot 0 (omega arith)), none_in xs)

below_none : (rows : List (List Hashed)) → weigh (ind (is_below 0)) rows ≡ 0
below_none [] = refl
below_none (r ∷ rs) = omega (arith, none_in r, below_none rs)

far_at : (len : ℕ) (x : Hashed) (xs : List Hashed) → (x.slot < len) ⊎ (len ≤ x.slot) → (total (ind (has_slot x.slot)) (x ∷ xs) ≡ 0) ⊎ (x.slot < len) → (cond {A = ℕ} (ltb x.slot len) 0 1 ≡ 0)
far_at len x xs (inl l) h = rw (lt-ltb x.slot len l) refl
far_at len x xs (inr l) (inl h) = absurd (omega (arith, h, ap (λ (b : Bool). cond {A = ℕ} b 1 0) (eq-eqb x.slot x.slot refl)))
far_at len x xs (inr l) (inr m) = absurd (omega arith)

abbrev is_far : ℕ → Hashed → ℕ
is_far len x = cond (ltb x.slot len) 0 1

either_far : (len : ℕ) (x : Hashed) (xs : List Hashed) → (x.slot < len) ⊎ (len ≤ x.slot) → ((k : ℕ) → len ≤ k → total (ind (has_slot k)) (x ∷ xs) ≡ 0) → (total (ind (has_slot x.slot)) (x ∷ xs) ≡ 0) ⊎ (x.slot < len)
either_far len x xs (inl l) h = inr l
either_far len x xs (inr l) h = inl (h x.slot l)

none_far : (len : ℕ) (xs : List Hashed) → ((k : ℕ) → len ≤ k → total (ind (has_slot k)) xs ≡ 0) → total (is_far len) xs ≡ 0
none_far len [] h = refl
none_far len (x ∷ xs) h =
    omega (arith, far_at len x xs (cases_lt x.slot len) (either_far len x xs (cases_lt x.slot len) h), none_far len xs (λ k l. let both = h k l in omega (arith, both)))

none_far_rows : (len : ℕ) (rows : List (List Hashed)) → ((k : ℕ) → len ≤ k → weigh (ind (has_slot k)) rows ≡ 0) → weigh (is_far len) rows ≡ 0
none_far_rows len [] h = refl
none_far_rows len (r ∷ rs) h =
    omega (arith, none_far len r (λ k l. let both = h k l in omega (arith, both)), none_far_rows len rs (λ k l. let both = h k l in omega (arith, both)))

module _ (rows : List (List Hashed)) (used : List Bool) (alone : (k : ℕ) → weigh (ind (has_slot k)) rows ≡ cond (get_or used k false) 1 0) where
  below_weigh : (n : ℕ) → weigh (ind (is_below n)) rows ≡ used_below used n
  below_weigh zero = below_none rows
  below_weigh (suc n) =
      weigh_same (ind (is_below (suc n))) (λ x. ind (is_below n) x + ind (has_slot n) x) rows (λ x. one_more_by n x.slot (cases_eq x.slot n) (cases_lt x.slot n))
      ∙ omega (arith, weigh_sum (ind (is_below n)) (ind (has_slot n)) rows, below_weigh n, alone n)

  either_way : (len : ℕ) (b : Bool) → 1 ≡ cond {A = ℕ} b 1 0 + cond {A = ℕ} b 0 1
  either_way len true = refl
  either_way len false = refl

  -- as many items stand there as slots are used
  pub all_used : weigh (λ (x : Hashed). 1) rows ≡ used_below used (length used)
  all_used =
      weigh_same (λ (x : Hashed). 1) (λ x. ind (is_below (length used)) x + is_far (length used) x) rows (λ x. either_way 0 (ltb x.slot (length used)))
      ∙ omega (
        arith,
        weigh_sum (ind (is_below (length used))) (is_far (length used)) rows,
        below_weigh (length used),
        none_far_rows (length used) rows (λ k l. alone k ∙ ap (λ (b : Bool). cond {A = ℕ} b 1 0) (get_or_past used k false l)),
      )

  -- with a free slot there are fewer items than slots
  pub room_left : (k : ℕ) → k < length used → get_or used k false ≡ false → weigh (λ (x : Hashed). 1) rows < length used
  room_left k l h = omega (arith, all_used, below_some used (length used) k h l)

  -- without one there are as many
  pub no_room : ((k : ℕ) → k < length used → get_or used k false ≡ true) → weigh (λ (x : Hashed). 1) rows ≡ length used
  no_room h = all_used ∙ below_all used (length used) h
