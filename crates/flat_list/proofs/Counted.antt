-- How many elements of a list pass a test, and whether one does, where the list changes.
use Rattle.std.proofs.Common.{◌≡◌, ℕ, ◌+◌, Bool, true, false, ◌||◌, cond, List, [], ◌∷◌, ◌++◌, map, filter, count_by, arith, refl, sym, ap, ◌∙◌, ◌⊎◌, inl, inr}
use Rattle.std.specs.List.{list_any}
use Rattle.std.proofs.lemmas.Bool.{cases_Bool, both_ways}
use Rattle.std.proofs.lemmas.List.Sums.{sum_by-cons}
use Rattle.list_words.specs.Lists.{Each}
use Rattle.list_words.proofs.EachLemmas.{each_of_all, each_unless_any}
use Rattle.list_words.proofs.Truths.{false_if}

pub count_cons : {A : Type 0} (p : A → Bool) (x : A) (xs : List A) → count_by p (x ∷ xs) ≡ cond {A = ℕ} (p x) 1 0 + count_by p xs
count_cons p x xs = sum_by-cons (λ y. cond {A = ℕ} (p y) 1 0) x xs

count_yes : {A : Type 0} (p : A → Bool) (x : A) (xs : List A) → p x ≡ true → count_by p (x ∷ xs) ≡ 1 + count_by p xs
count_yes p x xs e = count_cons p x xs ∙ ap (λ b. cond {A = ℕ} b 1 0 + count_by p xs) e

count_no : {A : Type 0} (p : A → Bool) (x : A) (xs : List A) → p x ≡ false → count_by p (x ∷ xs) ≡ count_by p xs
count_no p x xs e = let c : count_by p (x ∷ xs) ≡ 0 + count_by p xs = count_cons p x xs ∙ ap (λ b. cond {A = ℕ} b 1 0 + count_by p xs) e in omega (arith, c)

-- where none is counted, none passes
none_if : {A : Type 0} (p : A → Bool) (x : A) (xs : List A) → (p x ≡ true) ⊎ (p x ≡ false) → (count_by p xs ≡ 0 → Each (λ y. p y ≡ false) xs) → count_by p (x ∷ xs) ≡ 0 → Each (λ y. p y ≡ false) (x ∷ xs)
none_if p x xs (inl e) rest h = let c = count_yes p x xs e in absurd (omega (arith, c, h))
none_if p x xs (inr e) rest h = let c = count_no p x xs e in (e, rest (sym c ∙ h))

pub none_counted : {A : Type 0} (p : A → Bool) (xs : List A) → count_by p xs ≡ 0 → Each (λ x. p x ≡ false) xs
none_counted p [] h = tt
none_counted p (x ∷ xs) h = none_if p x xs (cases_Bool (p x)) (none_counted p xs) h

pub none_passing : {A : Type 0} (p : A → Bool) (xs : List A) → Each (λ x. p x ≡ false) xs → count_by p xs ≡ 0
none_passing p [] h = refl
none_passing p (x ∷ xs) h = count_no p x xs h.0 ∙ none_passing p xs h.1

-- where one is counted, one passes
one_if : {A : Type 0} (p : A → Bool) (xs : List A) → (list_any p xs ≡ true) ⊎ (list_any p xs ≡ false) → count_by p xs ≡ 1 → list_any p xs ≡ true
one_if p xs (inl e) h = e
one_if p xs (inr e) h = let none = none_passing p xs (each_unless_any p xs e) in absurd (omega (arith, none, h))

pub one_counted : {A : Type 0} (p : A → Bool) (xs : List A) → count_by p xs ≡ 1 → list_any p xs ≡ true
one_counted p xs h = one_if p xs (cases_Bool (list_any p xs)) h

pub count_map : {A B : Type 0} (p : B → Bool) (q : A → Bool) (f : A → B) (xs : List A) → Each (λ x. p (f x) ≡ q x) xs → count_by p (map f xs) ≡ count_by q xs
count_map p q f [] h = refl
count_map p q f (x ∷ xs) h =
    count_cons p (f x) (map f xs) ∙ ap (λ b. cond {A = ℕ} b 1 0 + count_by p (map f xs)) h.0
    ∙ ap (λ n. cond {A = ℕ} (q x) 1 0 + n) (count_map p q f xs h.1) ∙ sym (count_cons q x xs)

pub count_push : {A : Type 0} (p : A → Bool) (xs : List A) (y : A) → count_by p (xs ++ y ∷ []) ≡ count_by p xs + cond {A = ℕ} (p y) 1 0
count_push p [] y = let c : count_by p (y ∷ []) ≡ cond {A = ℕ} (p y) 1 0 + 0 = count_cons p y [] in omega (arith, c)
count_push p (x ∷ xs) y =
    let more = count_cons p x (xs ++ y ∷ []) in
    let here = count_cons p x xs in
    let rest = count_push p xs y in
    omega (arith, more, here, rest)

count_kept : {A : Type 0} (p keep : A → Bool) (x : A) (xs : List A) → ((y : A) → p y ≡ true → keep y ≡ true) → (b : Bool) → keep x ≡ b → count_by p (filter keep xs) ≡ count_by p xs → count_by p (cond b (x ∷ filter keep xs) (filter keep xs)) ≡ count_by p (x ∷ xs)
count_kept p keep x xs h true e rest = count_cons p x (filter keep xs) ∙ ap (λ n. cond {A = ℕ} (p x) 1 0 + n) rest ∙ sym (count_cons p x xs)
count_kept p keep x xs h false e rest = rest ∙ sym (count_no p x xs (false_if (p x) (keep x) (h x) e))

pub count_filter : {A : Type 0} (p keep : A → Bool) (xs : List A) → ((x : A) → p x ≡ true → keep x ≡ true) → count_by p (filter keep xs) ≡ count_by p xs
count_filter p keep [] h = refl
count_filter p keep (x ∷ xs) h = count_kept p keep x xs h (keep x) refl (count_filter p keep xs h)

pub any_map : {A B : Type 0} (p : B → Bool) (q : A → Bool) (f : A → B) (xs : List A) → Each (λ x. p (f x) ≡ q x) xs → list_any p (map f xs) ≡ list_any q xs
any_map p q f [] h = refl
any_map p q f (x ∷ xs) h = ap (λ b. b || list_any p (map f xs)) h.0 ∙ ap (λ b. q x || b) (any_map p q f xs h.1)

pub any_same : {A : Type 0} (p q : A → Bool) (xs : List A) → Each (λ x. p x ≡ q x) xs → list_any p xs ≡ list_any q xs
any_same p q [] h = refl
any_same p q (x ∷ xs) h = ap (λ b. b || list_any p xs) h.0 ∙ ap (λ b. q x || b) (any_same p q xs h.1)

or_none : (b : Bool) → (b || false) ≡ b
or_none true = refl
or_none false = refl

or_regroup : (a b c : Bool) → (a || (b || c)) ≡ ((a || b) || c)
or_regroup true b c = refl
or_regroup false b c = refl

pub any_push : {A : Type 0} (p : A → Bool) (xs : List A) (y : A) → list_any p (xs ++ y ∷ []) ≡ (list_any p xs || p y)
any_push p [] y = or_none (p y)
any_push p (x ∷ xs) y = ap (λ b. p x || b) (any_push p xs y) ∙ or_regroup (p x) (list_any p xs) (p y)

any_kept : {A : Type 0} (p keep : A → Bool) (x : A) (xs : List A) → (p x ≡ true → keep x ≡ true) → (b : Bool) → keep x ≡ b → list_any p (filter keep xs) ≡ list_any p xs → list_any p (cond b (x ∷ filter keep xs) (filter keep xs)) ≡ (p x || list_any p xs)
any_kept p keep x xs h true e rest = ap (λ b. p x || b) rest
any_kept p keep x xs h false e rest = rest ∙ ap (λ b. b || list_any p xs) (sym (false_if (p x) (keep x) h e))

pub any_filter : {A : Type 0} (p keep : A → Bool) (xs : List A) → Each (λ x. p x ≡ true → keep x ≡ true) xs → list_any p (filter keep xs) ≡ list_any p xs
any_filter p keep [] h = refl
any_filter p keep (x ∷ xs) h = any_kept p keep x xs h.0 (keep x) refl (any_filter p keep xs h.1)

-- what each that passes gives, where one passes
any_if : {A : Type 0} (Q : Type 0) (p : A → Bool) (x : A) (xs : List A) → (p x ≡ true) ⊎ (p x ≡ false) → (p x ≡ true → Q) → (list_any p xs ≡ true → Q) → (p x || list_any p xs) ≡ true → Q
any_if Q p x xs (inl is) h rest e = h is
any_if Q p x xs (inr fails) h rest e = rest (rw fails at e)

pub any_gives : {A : Type 0} (Q : Type 0) (p : A → Bool) (xs : List A) → Each (λ x. p x ≡ true → Q) xs → list_any p xs ≡ true → Q
any_gives Q p [] h e = absurd (both_ways false refl e)
any_gives Q p (x ∷ xs) h e = any_if Q p x xs (cases_Bool (p x)) h.0 (any_gives Q p xs h.1) e

-- a fact of each that is kept
each_if_kept : {A : Type 0} (P : A → Type 0) (b : Bool) (x : A) (ys : List A) → (b ≡ true → P x) → Each P ys → Each P (cond b (x ∷ ys) ys)
each_if_kept P true x ys p q = (p refl, q)
each_if_kept P false x ys p q = q

pub each_filter_kept : {A : Type 0} (P : A → Type 0) (keep : A → Bool) (xs : List A) → Each (λ x. keep x ≡ true → P x) xs → Each P (filter keep xs)
each_filter_kept P keep [] h = tt
each_filter_kept P keep (x ∷ xs) h = each_if_kept P (keep x) x (filter keep xs) h.0 (each_filter_kept P keep xs h.1)

-- a fact of each item of one list with each of another, either way
each_first : {A B : Type 0} (R : A → B → Type 0) (x : A) (xs : List A) (ys : List B) → Each (R x) ys → Each (λ y. Each (λ z. R z y) xs) ys → Each (λ y. Each (λ z. R z y) (x ∷ xs)) ys
each_first R x xs [] p q = tt
each_first R x xs (y ∷ ys) p q = ((p.0, q.0), each_first R x xs ys p.1 q.1)

pub each_swap : {A B : Type 0} (R : A → B → Type 0) (xs : List A) (ys : List B) → Each (λ x. Each (R x) ys) xs → Each (λ y. Each (λ x. R x y) xs) ys
each_swap R [] ys h = each_of_all (λ y. Unit {0}) ys (λ y. tt)
each_swap R (x ∷ xs) ys h = each_first R x xs ys h.0 (each_swap R xs ys h.1)
