-- Items of lists: that one is within a list, and what follows.
use Rattle.std.proofs.Common.{◌≡◌, ℕ, ◌<◌, ◌≤◌, Bool, true, false, ◌||◌, cond, List, [], ◌∷◌, find, length, get_or, zero, suc, Option, Some, None, refl, sym, ap, ◌∙◌, subst, ◌⊎◌, inl, inr, arith, max}
use Rattle.std.specs.Prelude.{count_by, fold}
use Rattle.std.specs.List.{list_any, filter_map, cons_option, Contains}
use Rattle.std.proofs.lemmas.Bool.{cond-true, cond-false, or_left, or_right, cases_Bool, cases_lt}
use Rattle.std.proofs.lemmas.List.Sums.{sum_by-cons}
use Rattle.list_words.specs.Lists.{Each, Pairs}

module _ {A : Type 0} where
  -- it is one of the items
  abbrev pub In : A → List A → Type 0
  In x [] = ⊥
  In x (y ∷ ys) = (y ≡ x) ⊎ In x ys

  -- a fact of each is one of it
  pub each_in : (P : A → Type 0) (x : A) (xs : List A) → Each P xs → In x xs → P x
  each_in P x [] p i = absurd i
  each_in P x (y ∷ ys) p (inl e) = subst P e p.0
  each_in P x (y ∷ ys) p (inr i) = each_in P x ys p.1 i

  -- and the other way round
  pub in_each : (P : A → Type 0) (xs : List A) → ((x : A) → In x xs → P x) → Each P xs
  in_each P [] h = tt
  in_each P (x ∷ xs) h = (h x (inl refl), in_each P xs (λ y i. h y (inr i)))

  -- two are one, or a fact of pairs holds of them in one order
  pub pairs_in : (R : A → A → Type 0) (x y : A) (xs : List A) → Pairs R xs → In x xs → In y xs → (x ≡ y) ⊎ (R x y ⊎ R y x)
  pairs_in R x y [] p i j = absurd i
  pairs_in R x y (z ∷ zs) p (inl e) (inl f) = inl (sym e ∙ f)
  pairs_in R x y (z ∷ zs) p (inl e) (inr j) = inr (inl (subst (λ (u : A). R u y) e (each_in (R z) y zs p.0 j)))
  pairs_in R x y (z ∷ zs) p (inr i) (inl f) = inr (inr (subst (λ (u : A). R u x) f (each_in (R z) x zs p.0 i)))
  pairs_in R x y (z ∷ zs) p (inr i) (inr j) = pairs_in R x y zs p.1 i j

  -- an item that passes
  pub record Passing (p : A → Bool) (xs : List A) : Type 0 where
    pub item : A
    pub within : In item xs
    pub passes : p item ≡ true

  any_at : (p : A → Bool) (x : A) (xs : List A) (b : Bool) → p x ≡ b → (b || list_any p xs) ≡ true → (list_any p xs ≡ true → Passing p xs) → Passing p (x ∷ xs)
  any_at p x xs true e h next = record { item = x; within = inl refl; passes = e }
  any_at p x xs false e h next = let q = next h in record { item = q.item; within = inr q.within; passes = q.passes }

  -- where some passes there is one
  pub any_item : (p : A → Bool) (xs : List A) → list_any p xs ≡ true → Passing p xs
  any_item p [] h = absurd (cc)
  any_item p (x ∷ xs) h = any_at p x xs (p x) refl h (any_item p xs)

  -- and the other way round
  pub any_in : (p : A → Bool) (x : A) (xs : List A) → In x xs → p x ≡ true → list_any p xs ≡ true
  any_in p x [] i h = absurd i
  any_in p x (y ∷ ys) (inl e) h = or_left (p y) (list_any p ys) (ap p e ∙ h)
  any_in p x (y ∷ ys) (inr i) h = or_right (p y) (list_any p ys) (any_in p x ys i h)

  -- what is found is within the list, and passes
  pub record Found (p : A → Bool) (xs : List A) : Type 0 where
    pub item : A
    pub is : find p xs ≡ Some item
    pub within : In item xs
    pub passes : p item ≡ true

  found_at : (p : A → Bool) (x : A) (xs : List A) → (p x ≡ true) ⊎ (p x ≡ false) → Found p xs → Found p (x ∷ xs)
  found_at p x xs (inl e) f = record { item = x; is = cond-true (p x) (Some x) (find p xs) e; within = inl refl; passes = e }
  found_at p x xs (inr e) f = record { item = f.item; is = cond-false (p x) (Some x) (find p xs) e ∙ f.is; within = inr f.within; passes = f.passes }

  -- where an item passes one is found
  pub finds : (p : A → Bool) (x : A) (xs : List A) → In x xs → p x ≡ true → Found p xs
  finds p x [] i h = absurd i
  finds p x (y ∷ ys) (inl e) h = record { item = y; is = cond-true (p y) (Some y) (find p ys) (ap p e ∙ h); within = inl refl; passes = ap p e ∙ h }
  finds p x (y ∷ ys) (inr i) h = found_at p y ys (cases_Bool (p y)) (finds p x ys i h)

  found_in_at : (p : A → Bool) (x s : A) (xs : List A) (b : Bool) → cond b (Some x) (find p xs) ≡ Some s → (find p xs ≡ Some s → In s xs) → In s (x ∷ xs)
  found_in_at p x s xs true h next = inl (cc)
  found_in_at p x s xs false h next = inr (next h)

  -- what is found is within
  pub found_in : (p : A → Bool) (xs : List A) (s : A) → find p xs ≡ Some s → In s xs
  found_in p [] s h = absurd (cc)
  found_in p (x ∷ xs) s h = found_in_at p x s xs (p x) h (found_in p xs s)

  -- none is found where none passes
  pub finds_none : (p : A → Bool) (xs : List A) → Each (λ x. p x ≡ false) xs → find p xs ≡ None
  finds_none p [] h = refl
  finds_none p (x ∷ xs) h = cond-false (p x) (Some x) (find p xs) h.0 ∙ finds_none p xs h.1

  -- the item at a place is within
  pub place_in : (xs : List A) (k : ℕ) (d : A) → k < length xs → In (get_or xs k d) xs
  place_in [] k d l = absurd (omega arith)
  place_in (y ∷ ys) zero d l = inl refl
  place_in (y ∷ ys) (suc k) d l = inr (place_in ys k d (omega arith))

  -- how many pass
  pub count_in : (p : A → Bool) (x : A) (xs : List A) → In x xs → p x ≡ true → 1 ≤ count_by p xs
  count_in p x [] i h = absurd i
  count_in p x (y ∷ ys) (inl e) h =
      let one = λ (z : A). cond {A = ℕ} (p z) 1 0 in
      omega (arith, sum_by-cons one y ys, ap (λ (b : Bool). cond {A = ℕ} b 1 0) (ap p e ∙ h))
  count_in p x (y ∷ ys) (inr i) h =
      let one = λ (z : A). cond {A = ℕ} (p z) 1 0 in
      omega (arith, sum_by-cons one y ys, count_in p x ys i h)

  contains_later : (y x : A) (ys : List A) → Contains ys x → Contains (y ∷ ys) x
  contains_later y x ys (k, below, is) = (suc k, omega (arith, below), is)

  -- an item that is within is at a place
  pub contains_in : (x : A) (xs : List A) → In x xs → Contains xs x
  contains_in x [] i = absurd i
  contains_in x (y ∷ ys) (inl e) = (0, omega arith, e)
  contains_in x (y ∷ ys) (inr i) = contains_later y x ys (contains_in x ys i)

module _ {A B : Type 0} (f : A → Option B) where
  -- where an item comes from
  pub record Made (y : B) (xs : List A) : Type 0 where
    pub item : A
    pub within : In item xs
    pub is : f item ≡ Some y

  made_at : (y : B) (x : A) (xs : List A) (o : Option B) → f x ≡ o → In y (cons_option o (filter_map f xs)) → (In y (filter_map f xs) → Made y xs) → Made y (x ∷ xs)
  made_at y x xs None e i next = let m = next i in record { item = m.item; within = inr m.within; is = m.is }
  made_at y x xs (Some z) e (inl q) next = record { item = x; within = inl refl; is = e ∙ ap Some q }
  made_at y x xs (Some z) e (inr i) next = let m = next i in record { item = m.item; within = inr m.within; is = m.is }

  pub made_in : (y : B) (xs : List A) → In y (filter_map f xs) → Made y xs
  made_in y [] i = absurd i
  made_in y (x ∷ xs) i = made_at y x xs (f x) refl i (made_in y xs)

  comes_at : (y : B) (ys : List B) (o : Option B) → In y ys → In y (cons_option o ys)
  comes_at y ys None i = i
  comes_at y ys (Some z) i = inr i

  -- what comes of an item
  pub comes_in : (x : A) (y : B) (xs : List A) → In x xs → f x ≡ Some y → In y (filter_map f xs)
  comes_in x y [] i h = absurd i
  comes_in x y (z ∷ zs) (inl e) h = subst (λ (o : Option B). In y (cons_option o (filter_map f zs))) (sym (ap f e ∙ h)) (inl refl)
  comes_in x y (z ∷ zs) (inr i) h = comes_at y (filter_map f zs) (f z) (comes_in x y zs i h)

least_fold : (xs : List ℕ) (a : ℕ) → a ≤ fold max a xs
least_fold [] a = omega arith
least_fold (x ∷ xs) a = omega (arith, least_fold xs (max a x))

fold_from : (xs : List ℕ) (a x : ℕ) → In x xs → x ≤ fold max a xs
fold_from [] a x i = absurd i
fold_from (y ∷ ys) a x (inl e) = omega (arith, e, least_fold ys (max a y))
fold_from (y ∷ ys) a x (inr i) = fold_from ys (max a y) x i

-- the greatest is at least each
pub fold_least : (xs : List ℕ) (x : ℕ) → In x xs → x ≤ fold max 0 xs
fold_least xs x i = fold_from xs 0 x i

fold_below : (xs : List ℕ) (a most : ℕ) → a ≤ most → Each (λ x. x ≤ most) xs → fold max a xs ≤ most
fold_below [] a most h e = h
fold_below (x ∷ xs) a most h e = fold_below xs (max a x) most (omega (arith, h, e.0)) e.1

-- and no more than what each is no more than
pub fold_most : (xs : List ℕ) (most : ℕ) → Each (λ x. x ≤ most) xs → fold max 0 xs ≤ most
fold_most xs most e = fold_below xs 0 most (omega arith) e

max_is : (a x : ℕ) → (max a x ≡ a) ⊎ (max a x ≡ x)
max_is a x = elim (cases_lt a x) [
  | inl h ↦ inr (omega (arith, h))
  | inr h ↦ inl (omega (arith, h))
]

greater : (a x : ℕ) (xs : List ℕ) (most : ℕ) → (max a x ≡ a) ⊎ (max a x ≡ x) → (most ≡ max a x) ⊎ In most xs → (most ≡ a) ⊎ In most (x ∷ xs)
greater a x xs most h (inr i) = inr (inr i)
greater a x xs most (inl e) (inl f) = inl (f ∙ e)
greater a x xs most (inr e) (inl f) = inr (inl (sym (f ∙ e)))

-- the greatest is the first, or one of the others
pub fold_one : (xs : List ℕ) (a : ℕ) → (fold max a xs ≡ a) ⊎ In (fold max a xs) xs
fold_one [] a = inl refl
fold_one (x ∷ xs) a = greater a x xs (fold max (max a x) xs) (max_is a x) (fold_one xs (max a x))
