-- Lists in the order of a number that each item has: two such lists in which those of one number stand in one order
-- are one, what a sort by that number leaves is such a list, and it has the same items.
use Rattle.std.proofs.Common.{◌≡◌, ◌≢◌, ℕ, zero, suc, ◌+◌, ◌<◌, ◌≤◌, Bool, true, false, nat_lt, cond, not, ◌&&◌, if◌then◌else◌, List, [], ◌∷◌, drop, length, map, slice_index_or, filter, refl, sym, ap, ap₂, ◌∙◌, arith, inl, inr}
use Rattle.std.specs.Cmp.{nat_cmp_is}
use Rattle.std.specs.Ordering.{is_lt, nat_cmp}
use Rattle.std.specs.declared.cmp.Ordering.{Ordering}
use Rattle.std.specs.declared.cmp.Ordering.TheVariants as orders
use Rattle.std.specs.List.Sorted.{IsNonDecreasingBy, IsStableByKey}
use Rattle.std.proofs.lemmas.Bool.{true≢false, ltb-true, ltb-false, cases_lt}
use Rattle.std.proofs.lemmas.List.Sorted.{IsNonDecreasingBy-drop}
use Rattle.list_words.specs.Lists.{Each, Pairs, SameItems, total}
use Rattle.list_words.specs.Ascending.{put_by, ascending_by}

-- Numbers that tie

abbrev pub tie : ℕ → ℕ → Bool
tie a b = not (is_lt (nat_cmp a b)) && not (is_lt (nat_cmp b a))

tie_is : (a b : ℕ) (x y : Ordering) → x ≡ nat_cmp a b → y ≡ nat_cmp b a → tie a b ≡ not (is_lt x) && not (is_lt y)
tie_is a b x y f g = sym (ap₂ (λ u v. not (is_lt u) && not (is_lt v)) f g)

tie_same : (a b : ℕ) → a ≡ b → tie a b ≡ true
tie_same a b e =
    tie_is a b orders.Equal orders.Equal (nat_cmp_is a b orders.Equal e) (nat_cmp_is b a orders.Equal (sym e))

tie_less : (a b : ℕ) → a < b → tie a b ≡ false
tie_less a b l = tie_is a b orders.Less orders.Greater (nat_cmp_is a b orders.Less l) (nat_cmp_is b a orders.Greater l)

tie_more : (a b : ℕ) → b < a → tie a b ≡ false
tie_more a b l = tie_is a b orders.Greater orders.Less (nat_cmp_is a b orders.Greater l) (nat_cmp_is b a orders.Less l)

pub tie_apart : (a b : ℕ) → a ≢ b → tie a b ≡ false
tie_apart a b d = elim (cases_lt a b) as (λ _. tie a b ≡ false) [
  | inl l ↦ tie_less a b l
  | inr m ↦ tie_more a b (omega (arith, m, d))
]

-- two that tie are one
pub tie_true : (a b : ℕ) → tie a b ≡ true → a ≡ b
tie_true a b t = elim (cases_lt a b) as (λ _. a ≡ b) [
  | inl l ↦ absurd (true≢false (sym t ∙ tie_less a b l))
  | inr m ↦ elim (cases_lt b a) as (λ _. a ≡ b) [
    | inl l ↦ absurd (true≢false (sym t ∙ tie_more a b l))
    | inr k ↦ omega (arith, m, k)
  ]
]

module _ {A : Type 0} (number : A → ℕ) where
  -- Items of one number

  abbrev pub alike : A → A → Bool
  alike x y = tie (number x) (number y)

  abbrev pub those_like : A → List A → List A
  those_like x xs = filter (alike x) xs

  abbrev NotBefore : A → A → Type 0
  NotBefore x y = number x ≤ number y

  abbrev pub Ascends : List A → Type 0
  Ascends xs = Pairs NotBefore xs

  abbrev head_or : A → List A → A
  head_or d [] = d
  head_or d (x ∷ xs) = x

  none_like : (c : A) (xs : List A) → Each (λ d. number c < number d) xs → those_like c xs ≡ []
  none_like c [] e = refl
  none_like c (x ∷ xs) e = ap (λ b. cond b (x ∷ those_like c xs) (those_like c xs)) (tie_less (number c) (number x) e.0) ∙ none_like c xs e.1

  first_like : (c : A) (xs : List A) → those_like c (c ∷ xs) ≡ c ∷ those_like c xs
  first_like c xs = ap (λ b. cond b (c ∷ those_like c xs) (those_like c xs)) (tie_same (number c) (number c) refl)

  all_above : (c x : A) (xs : List A) → number c < number x → Each (NotBefore x) xs → Each (λ d. number c < number d) xs
  all_above c x [] l e = tt
  all_above c x (y ∷ ys) l e = (omega (arith, l, e.0), all_above c x ys l e.1)

  -- the first of an ascending list isn't behind one that stands in the other
  not_behind : (x y : A) (xs ys : List A) → Ascends (x ∷ xs) → those_like y (x ∷ xs) ≡ those_like y (y ∷ ys) → number x ≤ number y
  not_behind x y xs ys up same = elim (cases_lt (number y) (number x)) as (λ _. number x ≤ number y) [
    | inl l ↦
        let none : those_like y (x ∷ xs) ≡ [] = none_like y (x ∷ xs) (l, all_above y x xs l up.0) in
        let p : length (y ∷ those_like y ys) ≡ 0 = ap length (sym (first_like y ys) ∙ sym same ∙ none) in
        absurd (omega (arith, p))
    | inr m ↦ m
  ]

  -- what is left behind the first of each
  rest_by : (z x y : A) (xs ys : List A) (p q : Bool) → alike z x ≡ p → alike z y ≡ q → p ≡ q
      → those_like z (x ∷ xs) ≡ those_like z (y ∷ ys) → those_like z xs ≡ those_like z ys
  rest_by z x y xs ys true true e f same h =
      ap (drop 1) (sym (ap (λ b. cond b (x ∷ those_like z xs) (those_like z xs)) e) ∙ h ∙ ap (λ b. cond b (y ∷ those_like z ys) (those_like z ys)) f)
  rest_by z x y xs ys false false e f same h =
      sym (ap (λ b. cond b (x ∷ those_like z xs) (those_like z xs)) e) ∙ h ∙ ap (λ b. cond b (y ∷ those_like z ys) (those_like z ys)) f
  rest_by z x y xs ys true false e f same h = absurd (true≢false same)
  rest_by z x y xs ys false true e f same h = absurd (true≢false (sym same))

  -- two ascending lists in which those of one number stand in one order are one
  pub one_order : (xs ys : List A) → Ascends xs → Ascends ys → ((c : A) → those_like c xs ≡ those_like c ys) → xs ≡ ys
  one_order [] [] p q f = refl
  one_order [] (y ∷ ys) p q f = let e : 0 ≡ length (y ∷ those_like y ys) = ap length (f y ∙ first_like y ys) in absurd (omega (arith, e))
  one_order (x ∷ xs) [] p q f = let e : length (x ∷ those_like x xs) ≡ 0 = ap length (sym (first_like x xs) ∙ f x) in absurd (omega (arith, e))
  one_order (x ∷ xs) (y ∷ ys) p q f =
      let low : number x ≤ number y = not_behind x y xs ys p (f y) in
      let high : number y ≤ number x = not_behind y x ys xs q (sym (f x)) in
      let even : number x ≡ number y = omega (arith, low, high) in
      let heads : x ∷ those_like x xs ≡ y ∷ those_like x ys =
      sym (first_like x xs) ∙ f x ∙ ap (λ b. cond b (y ∷ those_like x ys) (those_like x ys)) (tie_same (number x) (number y) even) in
      ap₂ (λ h t. h ∷ t) (ap (head_or x) heads)
      (one_order xs ys p.1 q.1
      (λ z. rest_by z x y xs ys (alike z x) (alike z y) refl refl (ap (tie (number z)) even) (f z)))

  -- Those of one number stay in their order

  put_past : (z c d : A) (rest : List A) → number d < number c → those_like z (put_by number c rest) ≡ those_like z (c ∷ rest)
      → (p q : Bool) → alike z d ≡ p → alike z c ≡ q → those_like z (d ∷ put_by number c rest) ≡ those_like z (c ∷ d ∷ rest)
  put_past z c d rest l h p q e f =
      ap (λ t. cond (alike z d) (d ∷ t) t) h
      ∙ ap₂ (λ a b. cond a (d ∷ cond b (c ∷ those_like z rest) (those_like z rest)) (cond b (c ∷ those_like z rest) (those_like z rest))) e f
      ∙ turned p q e f
      ∙ sym (ap₂ (λ a b. cond b (c ∷ cond a (d ∷ those_like z rest) (those_like z rest)) (cond a (d ∷ those_like z rest) (those_like z rest))) e f) where
        turned : (a b : Bool) → alike z d ≡ a → alike z c ≡ b
            → cond a (d ∷ cond b (c ∷ those_like z rest) (those_like z rest)) (cond b (c ∷ those_like z rest) (those_like z rest))
            ≡ cond b (c ∷ cond a (d ∷ those_like z rest) (those_like z rest)) (cond a (d ∷ those_like z rest) (those_like z rest))
        turned true true e f = absurd (omega (arith, l, tie_true (number z) (number d) e, tie_true (number z) (number c) f))
        turned true false e f = refl
        turned false true e f = refl
        turned false false e f = refl

  put_if : (z c d : A) (rest : List A) → those_like z (put_by number c rest) ≡ those_like z (c ∷ rest) → (b : Bool) → nat_lt (number d) (number c) ≡ b
      → those_like z (if b then d ∷ put_by number c rest else c ∷ d ∷ rest) ≡ those_like z (c ∷ d ∷ rest)
  put_if z c d rest h true e = put_past z c d rest (ltb-true (number d) (number c) e) h (alike z d) (alike z c) refl refl
  put_if z c d rest h false e = refl

  put_keeps : (z c : A) (xs : List A) → those_like z (put_by number c xs) ≡ those_like z (c ∷ xs)
  put_keeps z c [] = refl
  put_keeps z c (d ∷ rest) = put_if z c d rest (put_keeps z c rest) (nat_lt (number d) (number c)) refl

  pub ascending_keeps : (z : A) (xs : List A) → those_like z (ascending_by number xs) ≡ those_like z xs
  ascending_keeps z [] = refl
  ascending_keeps z (c ∷ rest) =
      put_keeps z c (ascending_by number rest) ∙ ap (λ t. cond (alike z c) (c ∷ t) t) (ascending_keeps z rest)

  -- What all weigh, and what holds of each

  total_if : (f : A → ℕ) (c d : A) (rest : List A) → total f (put_by number c rest) ≡ f c + total f rest → (b : Bool)
      → total f (if b then d ∷ put_by number c rest else c ∷ d ∷ rest) ≡ f c + (f d + total f rest)
  total_if f c d rest h true = omega (arith, h)
  total_if f c d rest h false = omega arith

  total_put : (f : A → ℕ) (c : A) (xs : List A) → total f (put_by number c xs) ≡ f c + total f xs
  total_put f c [] = refl
  total_put f c (d ∷ rest) = total_if f c d rest (total_put f c rest) (nat_lt (number d) (number c))

  pub same_ascending : (xs : List A) → SameItems xs (ascending_by number xs)
  same_ascending [] f = refl
  same_ascending (c ∷ rest) f = omega (arith, total_put f c (ascending_by number rest), same_ascending rest f)

  module _ (P : A → Type 0) where
    each_if : (c d : A) (rest : List A) → P c → P d → Each P rest → Each P (put_by number c rest) → (b : Bool)
        → Each P (if b then d ∷ put_by number c rest else c ∷ d ∷ rest)
    each_if c d rest p q e f true = (q, f)
    each_if c d rest p q e f false = (p, (q, e))

    each_put : (c : A) (xs : List A) → P c → Each P xs → Each P (put_by number c xs)
    each_put c [] p e = (p, tt)
    each_put c (d ∷ rest) p e = each_if c d rest p e.0 e.1 (each_put c rest p e.1) (nat_lt (number d) (number c))

    pub each_ascending : (xs : List A) → Each P xs → Each P (ascending_by number xs)
    each_ascending [] e = tt
    each_ascending (c ∷ rest) e = each_put c (ascending_by number rest) e.0 (each_ascending rest e.1)

    back_if : (c d : A) (rest : List A) → (Each P (put_by number c rest) → P c × Each P rest) → (b : Bool)
        → Each P (if b then d ∷ put_by number c rest else c ∷ d ∷ rest) → P c × Each P (d ∷ rest)
    back_if c d rest less true e = let r = less e.1 in (r.0, (e.0, r.1))
    back_if c d rest less false e = e

    put_back : (c : A) (xs : List A) → Each P (put_by number c xs) → P c × Each P xs
    put_back c [] e = e
    put_back c (d ∷ rest) e = back_if c d rest (put_back c rest) (nat_lt (number d) (number c)) e

    -- and the other way round
    pub each_ascending_back : (xs : List A) → Each P (ascending_by number xs) → Each P xs
    each_ascending_back [] e = tt
    each_ascending_back (c ∷ rest) e =
        let r = put_back c (ascending_by number rest) e in (r.0, each_ascending_back rest r.1)

  module _ (R : A → A → Type 0) (swap : (x y : A) → R x y → R y x) where
    pairs_if : (c d : A) (rest : List A) → Each (R c) (d ∷ rest) → Pairs R (d ∷ rest) → Pairs R (put_by number c rest) → (b : Bool)
        → Pairs R (if b then d ∷ put_by number c rest else c ∷ d ∷ rest)
    pairs_if c d rest e p h true = (each_put (R d) c rest (swap c d e.0) p.0, h)
    pairs_if c d rest e p h false = (e, p)

    pairs_put : (c : A) (xs : List A) → Each (R c) xs → Pairs R xs → Pairs R (put_by number c xs)
    pairs_put c [] e p = (tt, tt)
    pairs_put c (d ∷ rest) e p = pairs_if c d rest e p (pairs_put c rest e.1 p.1) (nat_lt (number d) (number c))

    -- a fact of each pair that goes both ways
    pub pairs_ascending : (xs : List A) → Pairs R xs → Pairs R (ascending_by number xs)
    pairs_ascending [] p = tt
    pairs_ascending (c ∷ rest) p = pairs_put c (ascending_by number rest) (each_ascending (R c) rest p.0) (pairs_ascending rest p.1)

  -- They ascend

  each_behind : (c d : A) (xs : List A) → number c ≤ number d → Each (NotBefore d) xs → Each (NotBefore c) xs
  each_behind c d [] l e = tt
  each_behind c d (x ∷ xs) l e = (omega (arith, l, e.0), each_behind c d xs l e.1)

  up_if : (c d : A) (rest : List A) → Ascends (d ∷ rest) → Ascends (put_by number c rest) → (b : Bool) → nat_lt (number d) (number c) ≡ b
      → Ascends (if b then d ∷ put_by number c rest else c ∷ d ∷ rest)
  up_if c d rest up p true e =
      let l : number d < number c = ltb-true (number d) (number c) e in
      (each_put (NotBefore d) c rest (omega (arith, l)) up.0, p)
  up_if c d rest up p false e =
      let l : number c ≤ number d = ltb-false (number d) (number c) e in
      ((l, each_behind c d rest l up.0), up)

  up_put : (c : A) (xs : List A) → Ascends xs → Ascends (put_by number c xs)
  up_put c [] p = (tt, tt)
  up_put c (d ∷ rest) p = up_if c d rest p (up_put c rest p.1) (nat_lt (number d) (number c)) refl

  pub ascending_up : (xs : List A) → Ascends (ascending_by number xs)
  ascending_up [] = tt
  ascending_up (c ∷ rest) = up_put c (ascending_by number rest) (ascending_up rest)

  above : (c : A) (xs : List A) → Each (NotBefore c) xs → Each (λ d. number c ≢ number d) xs → Each (λ d. number c < number d) xs
  above c [] u p = tt
  above c (x ∷ xs) u p = (omega (arith, u.0, p.0), above c xs u.1 p.1)

  -- where no two have one number, they do strictly
  pub strictly : (xs : List A) → Ascends xs → Pairs (λ c d. number c ≢ number d) xs → Pairs (λ c d. number c < number d) xs
  strictly [] u p = tt
  strictly (c ∷ rest) u p = (above c rest u.0 p.0, strictly rest u.1 p.1)

  pub ascending_strictly : (xs : List A) → Pairs (λ c d. number c ≢ number d) xs → Pairs (λ c d. number c < number d) (ascending_by number xs)
  ascending_strictly xs p =
      strictly (ascending_by number xs) (ascending_up xs) (pairs_ascending (λ c d. number c ≢ number d) (λ c d n e. n (sym e)) xs p)

  pub ascending_stays : (xs : List A) → ascending_by number xs ≡ ascending_by number (ascending_by number xs)
  ascending_stays xs = one_order (ascending_by number xs) (ascending_by number (ascending_by number xs))
      (ascending_up xs) (ascending_up (ascending_by number xs)) (λ c. sym (ascending_keeps c (ascending_by number xs)))

  -- The sort

  each_later : (c : A) (xs : List A) → IsNonDecreasingBy number (c ∷ xs) → Each (NotBefore c) xs
  each_later c [] h = tt
  each_later c (x ∷ xs) h = (h 0 1 c (omega arith) (omega arith), each_later c xs (λ i j d l b. passed i j d l b)) where
    passed : (i j : ℕ) (d : A) → i ≤ j → j < length (c ∷ xs) → number (slice_index_or (c ∷ xs) i d) ≤ number (slice_index_or (c ∷ xs) j d)
    passed zero zero d l b = omega arith
    passed zero (suc j) d l b = h 0 (suc (suc j)) d (omega arith) (omega (arith, b))
    passed (suc i) zero d l b = absurd (omega (arith, l))
    passed (suc i) (suc j) d l b = h (suc (suc i)) (suc (suc j)) d (omega (arith, l)) (omega (arith, b))

  pub up_from : (xs : List A) → IsNonDecreasingBy number xs → Ascends xs
  up_from [] h = tt
  up_from (x ∷ xs) h = (each_later x xs h, up_from xs (IsNonDecreasingBy-drop number 1 (x ∷ xs) h))

  pub sorted_is : (xs ys : List A) → IsNonDecreasingBy number ys → IsStableByKey number nat_cmp xs ys → ys ≡ ascending_by number xs
  sorted_is xs ys up stable =
      one_order ys (ascending_by number xs) (up_from ys up) (ascending_up xs) (λ c. stable c ∙ sym (ascending_keeps c xs))

-- What is made of items ascends as they do

module _ {A B : Type 0} (number : B → ℕ) (f : A → B) where
  map_if : (x y : A) (rest : List A) → map f (put_by (λ a. number (f a)) x rest) ≡ put_by number (f x) (map f rest) → (b : Bool)
      → map f (if b then y ∷ put_by (λ a. number (f a)) x rest else x ∷ y ∷ rest)
      ≡ (if b then f y ∷ put_by number (f x) (map f rest) else f x ∷ f y ∷ map f rest)
  map_if x y rest e true = ap (λ l. f y ∷ l) e
  map_if x y rest e false = refl

  map_put : (x : A) (xs : List A) → map f (put_by (λ a. number (f a)) x xs) ≡ put_by number (f x) (map f xs)
  map_put x [] = refl
  map_put x (y ∷ rest) = map_if x y rest (map_put x rest) (nat_lt (number (f y)) (number (f x)))

  pub map_ascending : (xs : List A) → map f (ascending_by (λ a. number (f a)) xs) ≡ ascending_by number (map f xs)
  map_ascending [] = refl
  map_ascending (x ∷ rest) = map_put x (ascending_by (λ a. number (f a)) rest) ∙ ap (put_by number (f x)) (map_ascending rest)
