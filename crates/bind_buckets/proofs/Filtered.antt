-- A filtered list where the first that passes a test is changed or taken out.
use Rattle.std.proofs.Common.{◌≡◌, Bool, true, false, List, [], ◌∷◌, cond, filter, find, Some, refl, sym, ◌∙◌, ap}
use Rattle.std.proofs.lemmas.Bool.{false≢true}
use Rattle.bind_buckets.specs.First.{change_first, drop_first}

module _ {A : Type 0} (m : A → Bool) (is : A → Bool) where
  -- who passes the test is kept
  module _ (kept : (x : A) → is x ≡ true → m x ≡ true) where
    change_by : (f : A → A) (x : A) (xs : List A) (p q : Bool) → is x ≡ p → m x ≡ q → (is x ≡ true → m (f x) ≡ true) → filter m (change_first is f xs) ≡ change_first is f (filter m xs) → filter m (cond p (f x ∷ xs) (x ∷ change_first is f xs)) ≡ change_first is f (cond q (x ∷ filter m xs) (filter m xs))
    change_by f x xs true true p q same rest = rw (p, same p) refl
    change_by f x xs true false p q same rest = absurd (false≢true (sym q ∙ kept x p))
    change_by f x xs false true p q same rest = rw (p, q) (ap (λ ys. x ∷ ys) rest)
    change_by f x xs false false p q same rest = rw q rest

    pub filter_change : (f : A → A) (xs : List A) → ((x : A) → m (f x) ≡ m x) → filter m (change_first is f xs) ≡ change_first is f (filter m xs)
    filter_change f [] same = refl
    filter_change f (x ∷ xs) same =
        change_by f x xs (is x) (m x) refl refl (λ p. same x ∙ kept x p) (filter_change f xs same)

    drop_by : (x : A) (xs : List A) (p q : Bool) → is x ≡ p → m x ≡ q → filter m (drop_first is xs) ≡ drop_first is (filter m xs) → filter m (cond p xs (x ∷ drop_first is xs)) ≡ drop_first is (cond q (x ∷ filter m xs) (filter m xs))
    drop_by x xs true true p q rest = rw p refl
    drop_by x xs true false p q rest = absurd (false≢true (sym q ∙ kept x p))
    drop_by x xs false true p q rest = rw (p, q) (ap (λ ys. x ∷ ys) rest)
    drop_by x xs false false p q rest = rw q rest

    pub filter_drop : (xs : List A) → filter m (drop_first is xs) ≡ drop_first is (filter m xs)
    filter_drop [] = refl
    filter_drop (x ∷ xs) = drop_by x xs (is x) (m x) refl refl (filter_drop xs)

    find_by : (x : A) (xs : List A) (p q : Bool) → is x ≡ p → m x ≡ q → find is xs ≡ find is (filter m xs) → cond p (Some x) (find is xs) ≡ find is (cond q (x ∷ filter m xs) (filter m xs))
    find_by x xs true true p q rest = rw p refl
    find_by x xs true false p q rest = absurd (false≢true (sym q ∙ kept x p))
    find_by x xs false true p q rest = rw p rest
    find_by x xs false false p q rest = rest

    pub find_filtered : (xs : List A) → find is xs ≡ find is (filter m xs)
    find_filtered [] = refl
    find_filtered (x ∷ xs) = find_by x xs (is x) (m x) refl refl (find_filtered xs)

  -- who passes the test is left out
  module _ (left : (x : A) → is x ≡ true → m x ≡ false) where
    unseen_change_by : (f : A → A) (x : A) (xs : List A) (p q : Bool) → is x ≡ p → m x ≡ q → m (f x) ≡ m x → filter m (change_first is f xs) ≡ filter m xs → filter m (cond p (f x ∷ xs) (x ∷ change_first is f xs)) ≡ cond q (x ∷ filter m xs) (filter m xs)
    unseen_change_by f x xs true true p q same rest = absurd (false≢true (sym (left x p) ∙ q))
    unseen_change_by f x xs true false p q same rest = rw (same, q) refl
    unseen_change_by f x xs false true p q same rest = rw q (ap (λ ys. x ∷ ys) rest)
    unseen_change_by f x xs false false p q same rest = rw q rest

    pub unseen_change : (f : A → A) (xs : List A) → ((x : A) → m (f x) ≡ m x) → filter m (change_first is f xs) ≡ filter m xs
    unseen_change f [] same = refl
    unseen_change f (x ∷ xs) same =
        unseen_change_by f x xs (is x) (m x) refl refl (same x) (unseen_change f xs same)

    unseen_drop_by : (x : A) (xs : List A) (p q : Bool) → is x ≡ p → m x ≡ q → filter m (drop_first is xs) ≡ filter m xs → filter m (cond p xs (x ∷ drop_first is xs)) ≡ cond q (x ∷ filter m xs) (filter m xs)
    unseen_drop_by x xs true true p q rest = absurd (false≢true (sym (left x p) ∙ q))
    unseen_drop_by x xs true false p q rest = refl
    unseen_drop_by x xs false true p q rest = rw q (ap (λ ys. x ∷ ys) rest)
    unseen_drop_by x xs false false p q rest = rw q rest

    pub unseen_drop : (xs : List A) → filter m (drop_first is xs) ≡ filter m xs
    unseen_drop [] = refl
    unseen_drop (x ∷ xs) = unseen_drop_by x xs (is x) (m x) refl refl (unseen_drop xs)
