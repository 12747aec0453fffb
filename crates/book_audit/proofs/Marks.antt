-- What stays in order show at one place.
use Rattle.std.proofs.Common.{◌≡◌, ℕ, zero, suc, ◌+◌, ◌-◌, ◌<◌, ◌≤◌, ◌==◌, ◌&&◌, ◌||◌, not, nat_lt, nat_le, Bool, true, false, List, [], ◌∷◌, ◌++◌, take, drop, length, get_or, Option, None, Some, refl, sym, ◌∙◌, subst, arith, ◌⊎◌, inl, inr, drop-cons}
use Rattle.std.proofs.lemmas.Bool.{true≢false, ltb-true, lt-ltb, leb-true, le-leb, eqb-true, eq-eqb, or_left, or_right, or_cases, and_from, not-true}
use Rattle.std.proofs.lemmas.List.{take_more}
use Rattle.list_words.specs.Lists.{Each}
use Rattle.list_words.proofs.EachLemmas.{each_weaken}
use Rattle.race_book.specs.Among.{Among}
use Rattle.race_book.proofs.Endings.{each_of}
use Rattle.race_book.proofs.Checks.{and_left, and_right}
use Rattle.book_audit.specs.declared.stays.Stay.{Stay}
use Rattle.book_audit.specs.Stays.{is_below}
use Rattle.book_audit.specs.Index.{outlasts, goes_before, AreOrdered, precedes, is_over, NoneStays}
use Rattle.book_audit.proofs.Prefixes.{each_line, pairs_line, pairs_last}

abbrev pub Goes : Stay → Stay → Type 0
Goes s t = goes_before s t ≡ true

-- the ways to go before
data Earlier (s t : Stay) : Type 0 where
  by_place : s.place < t.place → Earlier s t
  by_part : s.place ≡ t.place → s.part < t.part → Earlier s t
  by_from : s.place ≡ t.place → s.part ≡ t.part → s.from ≤ t.from → outlasts t.until s.until ≡ true → Earlier s t

earlier : (s t : Stay) → Goes s t → Earlier s t
earlier s t e = elim (or_cases (nat_lt s.place t.place) _ e) as (λ _. Earlier s t) [
  | inl p ↦ by_place (ltb-true s.place t.place p)
  | inr p ↦
      let place : s.place ≡ t.place = eqb-true s.place t.place (and_left (s.place == t.place) _ p) in
      elim (or_cases (nat_lt s.part t.part) _ (and_right (s.place == t.place) _ p)) as (λ _. Earlier s t) [
        | inl q ↦ by_part place (ltb-true s.part t.part q)
        | inr q ↦
            let a : Bool = s.part == t.part in
            let b : Bool = nat_le s.from t.from in
            let c : Bool = outlasts t.until s.until in
            by_from place (eqb-true s.part t.part (and_left a b (and_left (a && b) c q)))
            (leb-true s.from t.from (and_right a b (and_left (a && b) c q))) (and_right (a && b) c q)
      ]
]

goes : (s t : Stay) → Earlier s t → Goes s t
goes s t (by_place p) = or_left (nat_lt s.place t.place) _ (lt-ltb s.place t.place p)
goes s t (by_part p q) = or_right (nat_lt s.place t.place) _
    (and_from (s.place == t.place) _ (eq-eqb s.place t.place p) (or_left (nat_lt s.part t.part) _ (lt-ltb s.part t.part q)))
goes s t (by_from p q l o) = or_right (nat_lt s.place t.place) _
    (and_from (s.place == t.place) _ (eq-eqb s.place t.place p)
    (or_right (nat_lt s.part t.part) _
    (and_from ((s.part == t.part) && nat_le s.from t.from) (outlasts t.until s.until)
    (and_from (s.part == t.part) (nat_le s.from t.from) (eq-eqb s.part t.part q) (le-leb s.from t.from l)) o)))

pub longer : (u v w : Option ℕ) → outlasts u v ≡ true → outlasts v w ≡ true → outlasts u w ≡ true
longer None v w p q = refl
longer (Some n) None w p q = absurd (true≢false (sym p))
longer (Some n) (Some k) None p q = absurd (true≢false (sym q))
longer (Some n) (Some k) (Some j) p q = le-leb j n (omega (arith, leb-true k n p, leb-true j k q))

chain : (s t u : Stay) → Earlier s t → Earlier t u → Earlier s u
chain s t u (by_place p) (by_place q) = by_place (omega arith)
chain s t u (by_place p) (by_part q r) = by_place (subst (λ n. s.place < n) q p)
chain s t u (by_place p) (by_from q r l o) = by_place (subst (λ n. s.place < n) q p)
chain s t u (by_part p q) (by_place r) = by_place (subst (λ n. n < u.place) (sym p) r)
chain s t u (by_part p q) (by_part r w) = by_part (p ∙ r) (omega arith)
chain s t u (by_part p q) (by_from r w l o) = by_part (p ∙ r) (subst (λ n. s.part < n) w q)
chain s t u (by_from p q l o) (by_place w) = by_place (subst (λ n. n < u.place) (sym p) w)
chain s t u (by_from p q l o) (by_part w z) = by_part (p ∙ w) (subst (λ n. n < u.part) (sym q) z)
chain s t u (by_from p q l o) (by_from w z m n) =
    by_from (p ∙ w) (q ∙ z) (omega arith) (longer u.until t.until s.until n o)

on : (s t u : Stay) → Goes s t → Goes t u → Goes s u
on s t u p q = goes s u (chain s t u (earlier s t p) (earlier t u q))

one_more : (stays : List Stay) (i : ℕ) (d : Stay) → i + 1 < length stays → Goes (get_or stays i d) (get_or stays (i + 1) d) → AreOrdered (take (i + 1) stays) → AreOrdered (take (i + 1 + 1) stays)
one_more stays i d l f p =
    let last : Stay = get_or stays i d in
    let next : Stay = get_or stays (i + 1) d in
    pairs_line Goes stays (i + 1) d l p
    (each_line (λ s. Goes s next) stays i d (omega arith)
    (each_weaken (λ s. Goes s last) (λ s. Goes s next) (take i stays) (λ s e. on s last next e f) (pairs_last Goes stays i d (omega arith) p)) f)

pub ordered_line : (stays : List Stay) (i : ℕ) (d : Stay) → 1 ≤ i → i < length stays → Goes (get_or stays (i - 1) d) (get_or stays i d) → AreOrdered (take i stays) → AreOrdered (take (i + 1) stays)
ordered_line stays i d low l f p =
    let e : i - 1 + 1 ≡ i = omega arith in
    subst (λ k. AreOrdered (take (k + 1) stays)) e
    (one_more stays (i - 1) d (omega arith) (subst (λ k. Goes (get_or stays (i - 1) d) (get_or stays k d)) (sym e) f) (subst (λ k. AreOrdered (take k stays)) (sym e) p))

each_of_take : {A : Type 0} (P : A → Type 0) (k : ℕ) (xs : List A) → Each P xs → Each P (take k xs)
each_of_take P zero xs e = tt
each_of_take P (suc k) [] e = tt
each_of_take P (suc k) (x ∷ xs) e = (e.0, each_of_take P k xs e.1)

module _ (place part t0 t1 : ℕ) where
  abbrev Under : Stay → Type 0
  Under s = precedes s place part t0 ≡ true

  under_place : (s : Stay) → s.place < place → Under s
  under_place s p = or_left (nat_lt s.place place) _ (lt-ltb s.place place p)

  under_part : (s : Stay) → s.place ≡ place → s.part < part → Under s
  under_part s p q = or_right (nat_lt s.place place) _
      (and_from (s.place == place) _ (eq-eqb s.place place p) (or_left (nat_lt s.part part) _ (lt-ltb s.part part q)))

  under_from : (s : Stay) → s.place ≡ place → s.part ≡ part → s.from < t0 → Under s
  under_from s p q l = or_right (nat_lt s.place place) _
      (and_from (s.place == place) _ (eq-eqb s.place place p)
      (or_right (nat_lt s.part part) _ (and_from (s.part == part) (nat_lt s.from t0) (eq-eqb s.part part q) (lt-ltb s.from t0 l))))

  -- what goes before a stay in the place is no later
  under_by : (y s : Stay) → Earlier y s → s.place ≡ place → s.part ≡ part → s.from < t0 → Under y
  under_by y s (by_place a) p q l = under_place y (omega arith)
  under_by y s (by_part a b) p q l = under_part y (a ∙ p) (omega arith)
  under_by y s (by_from a b m o) p q l = under_from y (a ∙ p) (b ∙ q) (omega arith)

  none_among : (y : Stay) (rest : List Stay) → precedes y place part t0 ≡ false → Each (Goes y) rest → NoneStays (y ∷ rest) place part t0 t1
  none_among y rest n e s (inl same) p q l = absurd (true≢false (sym (subst (λ z. precedes z place part t0 ≡ true) same (under_from s p q l)) ∙ n))
  none_among y rest n e s (inr a) p q l =
      absurd (true≢false (sym (under_by y s (earlier y s (each_of (Goes y) rest e s a)) p q l) ∙ n))

  no_higher : (e : Stay) → Under e → (place < e.place) ⊎ ((e.place ≡ place) × (part < e.part)) → ⊥
  no_higher e u h = elim (or_cases (nat_lt e.place place) _ u) as (λ _. ⊥) [
    | inl p ↦ elim h as (λ _. ⊥) [ inl a ↦ omega (arith, a, ltb-true e.place place p) | inr a ↦ omega (arith, a.0, ltb-true e.place place p) ]
    | inr p ↦
        let same : e.place ≡ place = eqb-true e.place place (and_left (e.place == place) _ p) in
        elim h as (λ _. ⊥) [
          | inl a ↦ omega (arith, a, same)
          | inr a ↦ elim (or_cases (nat_lt e.part part) _ (and_right (e.place == place) _ p)) as (λ _. ⊥) [
            | inl q ↦ omega (arith, a.1, ltb-true e.part part q)
            | inr q ↦ omega (arith, a.1, eqb-true e.part part (and_left (e.part == part) (nat_lt e.from t0) q))
          ]
        ]
  ]

  over_is : (e : Stay) → is_over e place part t1 ≡ true → e.place ≡ place → e.part ≡ part → is_below e.until t1 ≡ true
  over_is e o p q = elim (or_cases (not (e.place == place) || not (e.part == part)) (is_below e.until t1) o) as (λ _. is_below e.until t1 ≡ true) [
    | inr b ↦ b
    | inl n ↦ elim (or_cases (not (e.place == place)) (not (e.part == part)) n) as (λ _. is_below e.until t1 ≡ true) [
      | inl a ↦ absurd (true≢false (sym (eq-eqb e.place place p) ∙ not-true (e.place == place) a))
      | inr a ↦ absurd (true≢false (sym (eq-eqb e.part part q) ∙ not-true (e.part == part) a))
    ]
  ]

  below_by : (u v : Option ℕ) → outlasts u v ≡ true → is_below u t1 ≡ true → is_below v t1 ≡ true
  below_by None v o b = absurd (true≢false (sym b))
  below_by (Some k) None o b = absurd (true≢false (sym o))
  below_by (Some k) (Some j) o b = lt-ltb j t1 (omega (arith, leb-true j k o, ltb-true k t1 b))

  over_by : (e s : Stay) → Under e → is_over e place part t1 ≡ true → Earlier s e → s.place ≡ place → s.part ≡ part → is_below s.until t1 ≡ true
  over_by e s u o (by_place a) p q = absurd (no_higher e u (inl (omega arith)))
  over_by e s u o (by_part a b) p q = absurd (no_higher e u (inr (sym a ∙ p, omega arith)))
  over_by e s u o (by_from a b m z) p q = below_by e.until s.until z (over_is e o (sym a ∙ p) (sym b ∙ q))

  among_last : (xs : List Stay) (e s : Stay) → Among (xs ++ e ∷ []) s → Among xs s ⊎ (s ≡ e)
  among_last [] e s (inl p) = inr p
  among_last [] e s (inr a) = absurd a
  among_last (x ∷ xs) e s (inl p) = inl (inl p)
  among_last (x ∷ xs) e s (inr a) = elim (among_last xs e s a) as (λ _. Among (x ∷ xs) s ⊎ (s ≡ e)) [ inl b ↦ inl (inr b) | inr b ↦ inr b ]

  none_up_to : (stays : List Stay) (i : ℕ) (d : Stay) → i < length stays → Under (get_or stays i d) → is_over (get_or stays i d) place part t1 ≡ true → AreOrdered (take (i + 1) stays) → NoneStays (take (i + 1) stays) place part t0 t1
  none_up_to stays i d l u o r s a p q m =
      let e : Stay = get_or stays i d in
      elim (among_last (take i stays) e s (subst (λ xs. Among xs s) (take_more stays i d l) a)) as (λ _. is_below s.until t1 ≡ true) [
        | inl b ↦ over_by e s u o (earlier s e (each_of (λ x. Goes x e) (take i stays) (pairs_last Goes stays i d l r) s b)) p q
        | inr same ↦ subst (λ (x : Stay). x.place ≡ place → x.part ≡ part → is_below x.until t1 ≡ true) (sym same) (over_is e o) p q
      ]

  pairs_of_take : (i : ℕ) (stays : List Stay) → AreOrdered stays → AreOrdered (take i stays)
  pairs_of_take zero stays e = tt
  pairs_of_take (suc i) [] e = tt
  pairs_of_take (suc i) (x ∷ xs) e = (each_of_take (Goes x) i xs e.0, pairs_of_take i xs e.1)

  pub earlier_none : (stays : List Stay) (i : ℕ) (d : Stay) → 0 < i → i ≤ length stays → Under (get_or stays (i - 1) d) → is_over (get_or stays (i - 1) d) place part t1 ≡ true → AreOrdered stays → NoneStays (take i stays) place part t0 t1
  earlier_none stays i d low l u o r =
      let e : i - 1 + 1 ≡ i = omega arith in
      subst (λ k. NoneStays (take k stays) place part t0 t1) e
      (none_up_to stays (i - 1) d (omega arith) u o (pairs_of_take (i - 1 + 1) stays r))

  pairs_of_drop : (i : ℕ) (stays : List Stay) → AreOrdered stays → AreOrdered (drop i stays)
  pairs_of_drop zero stays e = e
  pairs_of_drop (suc i) [] e = tt
  pairs_of_drop (suc i) (x ∷ xs) e = pairs_of_drop i xs e.1

  later_from : (stays : List Stay) (i : ℕ) (d : Stay) → i < length stays → precedes (get_or stays i d) place part t0 ≡ false → AreOrdered (drop i stays) → NoneStays (drop i stays) place part t0 t1
  later_from stays i d l n r =
      let is : drop i stays ≡ get_or stays i d ∷ drop (suc i) stays = drop-cons stays i d l in
      subst (λ xs. NoneStays xs place part t0 t1) (sym is)
      (none_among (get_or stays i d) (drop (suc i) stays) n (subst AreOrdered is r).0)

  pub later_none : (stays : List Stay) (i : ℕ) (d : Stay) → i < length stays → precedes (get_or stays i d) place part t0 ≡ false → AreOrdered stays → NoneStays (drop i stays) place part t0 t1
  later_none stays i d l n r = later_from stays i d l n (pairs_of_drop i stays r)

  pub none_both : (stays : List Stay) (i : ℕ) → NoneStays (drop i stays) place part t0 t1 → NoneStays (take i stays) place part t0 t1 → NoneStays stays place part t0 t1
  none_both stays zero f g s a = f s a
  none_both [] (suc i) f g s a = f s a
  none_both (x ∷ xs) (suc i) f g s (inl e) = g s (inl e)
  none_both (x ∷ xs) (suc i) f g s (inr a) = none_both xs i f (λ t b. g t (inr b)) s a
