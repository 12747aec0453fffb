-- Stays that come one after the other don't run into each other.
use Rattle.std.proofs.Common.{◌≡◌, ℕ, ◌+◌, ◌-◌, ◌<◌, ◌≤◌, ◌==◌, ◌&&◌, not, nat_lt, Bool, true, false, List, [], ◌∷◌, take, length, get_or, Option, None, Some, sym, ◌∙◌, subst, arith, inl, inr}
use Rattle.std.proofs.lemmas.Bool.{true≢false, ltb-true, lt-ltb, eqb-true, eq-eqb, leb-true, or_left, or_right, false_from_ne_true, or_cases, and_from}
use Rattle.std.proofs.lemmas.List.{take_all}
use Rattle.std.specs.List.{IsDistinct, AllByRecursion}
use Rattle.std.specs.List.Sorted.{IsPermutation}
use Rattle.std.proofs.lemmas.Map.Keys.{IsDistinct-IsPermutation}
use Rattle.std.proofs.lemmas.List.Sorted.{IsPermutation-sym}
use Rattle.list_words.specs.Lists.{Each, Pairs}
use Rattle.list_words.proofs.EachLemmas.{each_weaken}
use Rattle.list_words.proofs.PairsLemmas.{pairs_weaken}
use Rattle.list_words.proofs.Truths.{same_truth}
use Rattle.race_book.proofs.Checks.{and_left, and_right}
use Rattle.book_audit.specs.declared.stays.Stay.{Stay}
use Rattle.book_audit.specs.Stays.{is_below, runs_into, comes_first, is_from, lasts, NoneRunsInto}
use Rattle.book_audit.proofs.Prefixes.{pairs_line, pairs_last, each_line}

abbrev pub First : Stay → Stay → Type 0
First s t = comes_first s t ≡ true

-- the ways to come first
data Way (s t : Stay) : Type 0 where
  by_place : s.place < t.place → Way s t
  by_part : s.place ≡ t.place → s.part < t.part → Way s t
  by_time : s.place ≡ t.place → s.part ≡ t.part → is_below s.until t.from ≡ true → Way s t

way : (s t : Stay) → First s t → Way s t
way s t e = elim (or_cases (nat_lt s.place t.place) _ e) as (λ _. Way s t) [
  | inl p ↦ by_place (ltb-true s.place t.place p)
  | inr p ↦
      let place : s.place ≡ t.place = eqb-true s.place t.place (and_left (s.place == t.place) _ p) in
      elim (or_cases (nat_lt s.part t.part) _ (and_right (s.place == t.place) _ p)) as (λ _. Way s t) [
        | inl q ↦ by_part place (ltb-true s.part t.part q)
        | inr q ↦ by_time place (eqb-true s.part t.part (and_left (s.part == t.part) _ q)) (and_right (s.part == t.part) _ q)
      ]
]

first : (s t : Stay) → Way s t → First s t
first s t (by_place p) = or_left (nat_lt s.place t.place) _ (lt-ltb s.place t.place p)
first s t (by_part p q) = or_right (nat_lt s.place t.place) _
    (and_from (s.place == t.place) _ (eq-eqb s.place t.place p) (or_left (nat_lt s.part t.part) _ (lt-ltb s.part t.part q)))
first s t (by_time p q r) = or_right (nat_lt s.place t.place) _
    (and_from (s.place == t.place) _ (eq-eqb s.place t.place p)
    (or_right (nat_lt s.part t.part) _ (and_from (s.part == t.part) _ (eq-eqb s.part t.part q) r)))

later : (u v : Option ℕ) (m n : ℕ) → is_below u m ≡ true → is_from m v ≡ true → is_below v n ≡ true → is_below u n ≡ true
later None v m n p q r = p
later (Some k) None m n p q r = absurd (true≢false (sym r))
later (Some k) (Some j) m n p q r =
    lt-ltb k n (omega (arith, ltb-true k m p, ltb-true j n r, leb-true m j q))

chain : (s t u : Stay) → lasts t ≡ true → Way s t → Way t u → Way s u
chain s t u l (by_place p) (by_place q) = by_place (omega arith)
chain s t u l (by_place p) (by_part q r) = by_place (subst (λ n. s.place < n) q p)
chain s t u l (by_place p) (by_time q r w) = by_place (subst (λ n. s.place < n) q p)
chain s t u l (by_part p q) (by_place r) = by_place (subst (λ n. n < u.place) (sym p) r)
chain s t u l (by_part p q) (by_part r w) = by_part (p ∙ r) (omega arith)
chain s t u l (by_part p q) (by_time r w z) = by_part (p ∙ r) (subst (λ n. s.part < n) w q)
chain s t u l (by_time p q r) (by_place w) = by_place (subst (λ n. n < u.place) (sym p) w)
chain s t u l (by_time p q r) (by_part w z) = by_part (p ∙ w) (subst (λ n. n < u.part) (sym q) z)
chain s t u l (by_time p q r) (by_time w z y) = by_time (p ∙ w) (q ∙ z) (later s.until t.until t.from u.from r l y)

first_on : (s t u : Stay) → lasts t ≡ true → First s t → First t u → First s u
first_on s t u l p q = first s u (chain s t u l (way s t p) (way t u q))

not_and : (b : Bool) → b ≡ true → not b ≡ true → ⊥
not_and true p q = true≢false (sym q)
not_and false p q = true≢false (sym p)

-- what two stays that run into each other have
pub record Runs (s t : Stay) : Type 0 where
  pub place : s.place ≡ t.place
  pub part : s.part ≡ t.part
  pub one : not (is_below s.until t.from) ≡ true
  pub other : not (is_below t.until s.from) ≡ true

runs : (s t : Stay) → runs_into s t ≡ true → Runs s t
runs s t e =
    let a : Bool = (s.place == t.place) && (s.part == t.part) in
    let b : Bool = not (is_below s.until t.from) in
    let c : Bool = not (is_below t.until s.from) in
    let p = and_left (a && b) c e in
    let q = and_left a b p in record {
      place = eqb-true s.place t.place (and_left (s.place == t.place) (s.part == t.part) q);
      part = eqb-true s.part t.part (and_right (s.place == t.place) (s.part == t.part) q);
      one = and_right a b p;
      other = and_right (a && b) c e;
    }

pub into : (s t : Stay) → Runs s t → runs_into s t ≡ true
into s t r =
    let a : Bool = (s.place == t.place) && (s.part == t.part) in
    let b : Bool = not (is_below s.until t.from) in
    let c : Bool = not (is_below t.until s.from) in
    and_from (a && b) c (and_from a b (and_from (s.place == t.place) (s.part == t.part) (eq-eqb s.place t.place r.place) (eq-eqb s.part t.part r.part)) r.one) r.other

turned : (s t : Stay) → runs_into s t ≡ true → runs_into t s ≡ true
turned s t e = let r : Runs s t = runs s t e in
    into t s (record { place = sym r.place; part = sym r.part; one = r.other; other = r.one })

flips : (s t : Stay) → runs_into s t ≡ runs_into t s
flips s t = same_truth (runs_into s t) (runs_into t s) (turned s t) (turned t s)

clash_by : (s t : Stay) → Way s t → Runs s t → ⊥
clash_by s t (by_place p) r = omega (arith, r.place)
clash_by s t (by_part p q) r = omega (arith, r.part)
clash_by s t (by_time p q w) r = not_and (is_below s.until t.from) w r.one

apart : (s t : Stay) → First s t → runs_into s t ≡ false
apart s t f = false_from_ne_true (runs_into s t) (λ e. clash_by s t (way s t f) (runs s t e))

-- stays one after the other
pub apart_all : (stays : List Stay) → Pairs First stays → NoneRunsInto stays
apart_all stays = pairs_weaken First (λ s t. runs_into s t ≡ false) stays apart

-- one stay more, after the last one
pub one_more : (stays : List Stay) (i : ℕ) (d : Stay) → i + 1 < length stays → First (get_or stays i d) (get_or stays (i + 1) d) → lasts (get_or stays i d) ≡ true → Pairs First (take (i + 1) stays) → Pairs First (take (i + 1 + 1) stays)
one_more stays i d l f t p =
    let last : Stay = get_or stays i d in
    let next : Stay = get_or stays (i + 1) d in
    pairs_line First stays (i + 1) d l p
    (each_line (λ s. First s next) stays i d (omega arith)
    (each_weaken (λ s. First s last) (λ s. First s next) (take i stays) (λ s e. first_on s last next t e f) (pairs_last First stays i d (omega arith) p)) f)

all_by : {A : Type 0} (P : A → Type 0) (xs : List A) → Each P xs → AllByRecursion P xs
all_by P [] e = tt
all_by P (x ∷ xs) e = (e.0, all_by P xs e.1)

by_all : {A : Type 0} (P : A → Type 0) (xs : List A) → AllByRecursion P xs → Each P xs
by_all P [] e = tt
by_all P (x ∷ xs) e = (e.0, by_all P xs e.1)

to_distinct : (stays : List Stay) → NoneRunsInto stays → IsDistinct runs_into stays
unfolding IsDistinct
to_distinct [] p = tt
to_distinct (s ∷ stays) p = (all_by (λ t. runs_into s t ≡ false) stays p.0, to_distinct stays p.1)

from_distinct : (stays : List Stay) → IsDistinct runs_into stays → NoneRunsInto stays
unfolding IsDistinct
from_distinct [] p = tt
from_distinct (s ∷ stays) p = (by_all (λ t. runs_into s t ≡ false) stays p.0, from_distinct stays p.1)

-- in any order
pub any_order : (xs ys : List Stay) → IsPermutation xs ys → NoneRunsInto ys → NoneRunsInto xs
any_order xs ys p n = from_distinct xs
    (IsDistinct-IsPermutation runs_into flips ys xs (IsPermutation-sym xs ys p) (to_distinct ys n))

pub one_more_at : (stays : List Stay) (i : ℕ) (d : Stay) → 1 ≤ i → i < length stays → First (get_or stays (i - 1) d) (get_or stays i d) → lasts (get_or stays (i - 1) d) ≡ true → Pairs First (take i stays) → Pairs First (take (i + 1) stays)
one_more_at stays i d low l f t p =
    let e : i - 1 + 1 ≡ i = omega arith in
    subst (λ k. Pairs First (take (k + 1) stays)) e
    (one_more stays (i - 1) d (omega arith) (subst (λ k. First (get_or stays (i - 1) d) (get_or stays k d)) (sym e) f) t (subst (λ k. Pairs First (take k stays)) (sym e) p))

pub all_apart : (stays : List Stay) (i : ℕ) → length stays ≤ i → Pairs First (take i stays) → NoneRunsInto stays
all_apart stays i l p = apart_all stays (subst (λ xs. Pairs First xs) (take_all i stays l) p)
