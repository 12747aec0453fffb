-- The first item that passes a test, changed or taken out: weights, what holds of each, and what is found.
use Rattle.std.proofs.Common.{◌≡◌, ℕ, ◌+◌, Bool, true, false, cond, List, [], ◌∷◌, find, Some, ◌⊎◌, inl, inr, ap, arith}
use Rattle.std.proofs.lemmas.Bool.{cases_Bool}
use Rattle.list_words.specs.Lists.{Each, total}
use Rattle.list_words.proofs.EachLemmas.{some_same}
use Rattle.bind_buckets.specs.First.{change_first, drop_first}

module _ {A : Type 0} (is : A → Bool) where
  change_at : (change : A → A) (g : A → ℕ) (x a : A) (xs : List A) → (is x ≡ true) ⊎ (is x ≡ false)
      → (find is xs ≡ Some a → total g (change_first is change xs) + g a ≡ total g xs + g (change a))
      → find is (x ∷ xs) ≡ Some a → total g (change_first is change (x ∷ xs)) + g a ≡ total g (x ∷ xs) + g (change a)
  change_at change g x a xs (inl e) later h =
      let same : x ≡ a = some_same x a (rw e at h) in
      omega (arith, ap (λ (b : Bool). total g (cond b (change x ∷ xs) (x ∷ change_first is change xs))) e, ap g same, ap (λ (y : A). g (change y)) same)
  change_at change g x a xs (inr e) later h =
      omega (arith, ap (λ (b : Bool). total g (cond b (change x ∷ xs) (x ∷ change_first is change xs))) e, later (rw e at h))

  -- the first weighs as what it has become
  pub change_weighs : (change : A → A) (g : A → ℕ) (a : A) (xs : List A) → find is xs ≡ Some a → total g (change_first is change xs) + g a ≡ total g xs + g (change a)
  change_weighs change g a [] h = absurd (cc)
  change_weighs change g a (x ∷ xs) h = change_at change g x a xs (cases_Bool (is x)) (change_weighs change g a xs) h

  drop_at : (g : A → ℕ) (x a : A) (xs : List A) → (is x ≡ true) ⊎ (is x ≡ false)
      → (find is xs ≡ Some a → total g (drop_first is xs) + g a ≡ total g xs)
      → find is (x ∷ xs) ≡ Some a → total g (drop_first is (x ∷ xs)) + g a ≡ total g (x ∷ xs)
  drop_at g x a xs (inl e) later h =
      let same : x ≡ a = some_same x a (rw e at h) in
      omega (arith, ap (λ (b : Bool). total g (cond b xs (x ∷ drop_first is xs))) e, ap g same)
  drop_at g x a xs (inr e) later h =
      omega (arith, ap (λ (b : Bool). total g (cond b xs (x ∷ drop_first is xs))) e, later (rw e at h))

  -- the first weighs no more
  pub drop_weighs : (g : A → ℕ) (a : A) (xs : List A) → find is xs ≡ Some a → total g (drop_first is xs) + g a ≡ total g xs
  drop_weighs g a [] h = absurd (cc)
  drop_weighs g a (x ∷ xs) h = drop_at g x a xs (cases_Bool (is x)) (drop_weighs g a xs) h

  changed_pick : (P : A → Type 0) (change : A → A) (x : A) (xs ys : List A) (b : Bool) → P x → P (change x) → Each P xs → Each P ys → Each P (cond b (change x ∷ xs) (x ∷ ys))
  changed_pick P change x xs ys true p q r s = (q, r)
  changed_pick P change x xs ys false p q r s = (p, s)

  -- what the change keeps holds of each
  pub change_each : (P : A → Type 0) (change : A → A) (xs : List A) → ((x : A) → P x → P (change x)) → Each P xs → Each P (change_first is change xs)
  change_each P change [] keeps h = tt
  change_each P change (x ∷ xs) keeps h =
      changed_pick P change x xs (change_first is change xs) (is x) h.0 (keeps x h.0) h.1 (change_each P change xs keeps h.1)

  dropped_pick : (P : A → Type 0) (x : A) (xs ys : List A) (b : Bool) → P x → Each P xs → Each P ys → Each P (cond b xs (x ∷ ys))
  dropped_pick P x xs ys true p q r = q
  dropped_pick P x xs ys false p q r = (p, r)

  -- and of each that is left
  pub drop_each : (P : A → Type 0) (xs : List A) → Each P xs → Each P (drop_first is xs)
  drop_each P [] h = tt
  drop_each P (x ∷ xs) h = dropped_pick P x xs (drop_first is xs) (is x) h.0 h.1 (drop_each P xs h.1)
