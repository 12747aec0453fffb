-- Cutting a text at the first of a byte that doesn't stand before.
use Rattle.std.proofs.Common.{◌≡◌, ℕ, ◌+◌, ◌<◌, ◌≤◌, ◌^◌, ◌==◌, List, [], ◌∷◌, ◌++◌, length, take, drop, get_or, decimal, arith, subst, sym, refl, Bool, true, false, Some, None, position, suc, ◌⊎◌, inl, inr, not, cond, add-one}
use Rattle.std.specs.List.{position_or_len}
use Rattle.std.proofs.lemmas.List.Quantifiers.{position-Some}
use Rattle.std.proofs.lemmas.Bool.{eqb-true, eqb-false, eq-eqb, cases_Bool}
use Rattle.std.proofs.lemmas.List.{take-append-drop}
use Rattle.std.proofs.Math.Seq.{drop-cons}
use Rattle.std.specs.Char.{digit_value}
use Rattle.std.specs.Str.Parse.{AllDigits}
use Rattle.std.proofs.lemmas.Fmt.{decimal_is_IsNumeral}

-- no element is c
abbrev pub Lacks : ℕ → List ℕ → Type 0
Lacks c [] = Unit {0}
Lacks c (x ∷ xs) = (x ≡ c → ⊥) × Lacks c xs

-- two texts that lack a byte lack it joined
pub Lacks-append : (c : ℕ) (xs ys : List ℕ) → Lacks c xs → Lacks c ys → Lacks c (xs ++ ys)
Lacks-append c [] ys a b = b
Lacks-append c (x ∷ xs) ys a b = (a.0, Lacks-append c xs ys a.1 b)

-- a byte that is no digit stands in no run of digits
digits_lack : (c : ℕ) → 10 ≤ digit_value c → (xs : List ℕ) → AllDigits 10 xs → Lacks c xs
digits_lack c far [] h = tt
digits_lack c far (x ∷ xs) h =
    ((λ e. let near : digit_value c < 10 = subst (λ b. digit_value b < 10) e h.0 in absurd (omega arith)), digits_lack c far xs h.1)

-- nor in a number
pub decimal_lacks : (c n : ℕ) → 10 ≤ digit_value c → n < 2 ^ 64 → Lacks c (decimal n)
decimal_lacks c n far fits = digits_lack c far (decimal n) (decimal_is_IsNumeral n fits).0.1

-- equal texts have equal first bytes and equal rests
front_of : (x y : ℕ) (xs ys : List ℕ) → x ∷ xs ≡ y ∷ ys → (x ≡ y) × (xs ≡ ys)
front_of x y xs ys e = (cc, cc)

-- there is one way to cut at c
pub one_cut : (c : ℕ) (xs ys us vs : List ℕ) → Lacks c xs → Lacks c us → xs ++ c ∷ ys ≡ us ++ c ∷ vs → (xs ≡ us) × (ys ≡ vs)
one_cut c [] ys [] vs a b e = (refl, (front_of c c ys vs e).1)
one_cut c [] ys (u ∷ us) vs a b e = absurd (b.0 (sym (front_of c u ys (us ++ c ∷ vs) e).0))
one_cut c (x ∷ xs) ys [] vs a b e = absurd (a.0 (front_of x c (xs ++ c ∷ ys) vs e).0)
one_cut c (x ∷ xs) ys (u ∷ us) vs a b e =
    let f = front_of x u (xs ++ c ∷ ys) (us ++ c ∷ vs) e in
    let rest = one_cut c xs ys us vs a.1 b.1 f.1 in
    let first : x ≡ u = f.0 in
    let others : xs ≡ us = rest.0 in
    (rw (first, others) refl, rest.1)

-- the test for one byte
abbrev pub is_byte : ℕ → ℕ → Bool
is_byte c b = b == c

-- a place that is found is the first, and within the text
place_is : (c i : ℕ) (xs : List ℕ) → position (is_byte c) xs ≡ Some i → (i ≡ position_or_len (is_byte c) xs) × (i < length xs)
place_is c i xs h = grind (arith, h)

-- where none is found, the first place is past the end
no_place : (c : ℕ) (xs : List ℕ) → position (is_byte c) xs ≡ None → length xs ≤ position_or_len (is_byte c) xs
no_place c xs h = grind (arith, h)

-- the sum in the form that the lists have
one_more : (n : ℕ) → 1 + n ≡ suc n
one_more n = omega arith

-- the step of `lacks_before`, by whether the first byte is it
lacks_from : (c x : ℕ) (xs : List ℕ) (n : ℕ) → (is_byte c x ≡ true) ⊎ (is_byte c x ≡ false) → Lacks c (take n xs) → Lacks c (take (cond (not (is_byte c x)) (1 + n) 0) (x ∷ xs))
lacks_from c x xs n (inl e) h = rw e tt
lacks_from c x xs n (inr e) h = rw (e, one_more n) (eqb-false x c e, h)

-- what stands before the first of a byte lacks it
lacks_before : (c : ℕ) (xs : List ℕ) → Lacks c (take (position_or_len (is_byte c) xs) xs)
lacks_before c [] = tt
lacks_before c (x ∷ xs) = lacks_from c x xs (position_or_len (is_byte c) xs) (cases_Bool (is_byte c x)) (lacks_before c xs)

-- where a byte is found, the text is cut there, and what stands before lacks it
pub cut_at : (c i : ℕ) (xs : List ℕ) → position (is_byte c) xs ≡ Some i → (xs ≡ take i xs ++ c ∷ drop (i + 1) xs) × Lacks c (take i xs)
cut_at c i xs h =
    let place = place_is c i xs h in
    let at = position-Some (is_byte c) xs i 0 h in
    let here : get_or xs i 0 ≡ c = eqb-true (get_or xs i 0) c at.1 in
    let cut : take i xs ++ c ∷ drop (suc i) xs ≡ xs =
    subst (λ b. take i xs ++ b ∷ drop (suc i) xs ≡ xs) here (rw (← drop-cons xs i 0 place.1) (take-append-drop i xs)) in
    (rw add-one (sym cut), rw place.0 (lacks_before c xs))

-- the step of `found_before`
found_from : (c x n m : ℕ) → (is_byte c x ≡ true) ⊎ (is_byte c x ≡ false) → n < m → cond (not (is_byte c x)) (1 + n) 0 < suc m
found_from c x n m (inl e) h = rw e (omega arith)
found_from c x n m (inr e) h = rw e (omega arith)

-- a byte that is there is found
found_before : (c : ℕ) (xs ys : List ℕ) → position_or_len (is_byte c) (xs ++ c ∷ ys) < length (xs ++ c ∷ ys)
found_before c [] ys = let e : is_byte c c ≡ true = eq-eqb c c refl in rw e (omega arith)
found_before c (x ∷ xs) ys =
    found_from c x (position_or_len (is_byte c) (xs ++ c ∷ ys)) (length (xs ++ c ∷ ys)) (cases_Bool (is_byte c x)) (found_before c xs ys)

-- so a text with that byte has a place of it
pub is_found : (c : ℕ) (xs ys : List ℕ) → position (is_byte c) (xs ++ c ∷ ys) ≡ None → ⊥
is_found c xs ys h =
    let past = no_place c (xs ++ c ∷ ys) h in
    let before = found_before c xs ys in
    omega arith
