-- The socket of a name in a list whose names differ, changed or gone.
use Rattle.std.proofs.Common.{◌≡◌, ◌≢◌, ℕ, ◌+◌, Bool, true, false, not, cond, List, [], ◌∷◌, find, Some, ◌⊎◌, inl, inr, refl, ap, sym, ◌∙◌, subst, arith}
use Rattle.std.proofs.lemmas.Bool.{cases_Bool, eqb-true, ne_eqb}
use Rattle.list_words.specs.Lists.{Each, Pairs, total}
use Rattle.list_words.proofs.EachLemmas.{each_weaken, some_same, found_passes}
use Rattle.flat_list.specs.declared.socket.Socket.{Socket}
use Rattle.flat_list.specs.Sockets.{has_name, put, replaced, without}
use Rattle.flat_list.specs.Sound.{NamesDiffer}

-- the socket of that name in the list
abbrev pub Listed : ℕ → List Socket → Socket → Type 0
Listed name xs s = find (has_name name) xs ≡ Some s

-- it has the name
pub listed_name : (name : ℕ) (xs : List Socket) (s : Socket) → Listed name xs s → s.owner.name ≡ name
listed_name name xs s h = eqb-true s.owner.name name (found_passes (has_name name) xs s h)

-- no socket but the first has its name
pub each_other : (name : ℕ) (x : Socket) (xs : List Socket) → has_name name x ≡ true → Each (NamesDiffer x) xs → Each (λ y. has_name name y ≡ false) xs
each_other name x xs e h =
    each_weaken (NamesDiffer x) (λ y. has_name name y ≡ false) xs
    (λ y d. ne_eqb y.owner.name name (λ q. d (eqb-true x.owner.name name e ∙ sym q))) h

module _ (new : Socket) where
  put_unnamed : (g : Socket → ℕ) (xs : List Socket) → Each (λ y. has_name new.owner.name y ≡ false) xs → total g (put new xs) ≡ total g xs
  put_unnamed g [] h = refl
  put_unnamed g (x ∷ xs) h = omega (arith, ap (λ (b : Bool). g (cond b new x)) h.0, put_unnamed g xs h.1)

  put_at : (g : Socket → ℕ) (x s : Socket) (xs : List Socket) → (has_name new.owner.name x ≡ true) ⊎ (has_name new.owner.name x ≡ false) → Each (NamesDiffer x) xs
      → (Listed new.owner.name xs s → total g (put new xs) + g s ≡ total g xs + g new)
      → Listed new.owner.name (x ∷ xs) s → total g (put new (x ∷ xs)) + g s ≡ total g (x ∷ xs) + g new
  put_at g x s xs (inl e) names later h =
      let is : x ≡ s = some_same x s (rw e at h) in
      omega (arith, ap (λ (b : Bool). g (cond b new x)) e, put_unnamed g xs (each_other new.owner.name x xs e names), ap g is)
  put_at g x s xs (inr e) names later h = omega (arith, ap (λ (b : Bool). g (cond b new x)) e, later (rw e at h))

  -- one weighs as the new one now
  pub put_weighs : (g : Socket → ℕ) (s : Socket) (xs : List Socket) → Pairs NamesDiffer xs → Listed new.owner.name xs s → total g (put new xs) + g s ≡ total g xs + g new
  put_weighs g s [] names h = absurd (cc)
  put_weighs g s (x ∷ xs) names h = put_at g x s xs (cases_Bool (has_name new.owner.name x)) names.0 (put_weighs g s xs names.1) h

  -- what takes a place has the name of what stood there
  pub replaced_name : (b : Bool) (x : Socket) → has_name new.owner.name x ≡ b → (cond b new x).owner.name ≡ x.owner.name
  replaced_name true x e = sym (eqb-true x.owner.name new.owner.name e)
  replaced_name false x e = refl

  each_put : (P : ℕ → Type 0) (xs : List Socket) → Each (λ (y : Socket). P y.owner.name) xs → Each (λ (y : Socket). P y.owner.name) (put new xs)
  each_put P [] h = tt
  each_put P (x ∷ xs) h = (subst P (sym (replaced_name (has_name new.owner.name x) x refl)) h.0, each_put P xs h.1)

  -- names differ as before
  pub names_put : (xs : List Socket) → Pairs NamesDiffer xs → Pairs NamesDiffer (put new xs)
  names_put [] h = tt
  names_put (x ∷ xs) h =
      let same : (replaced new x).owner.name ≡ x.owner.name = replaced_name (has_name new.owner.name x) x refl in
      (each_put (λ n. (replaced new x).owner.name ≢ n) xs (subst (λ (k : ℕ). Each (λ (y : Socket). k ≢ y.owner.name) xs) (sym same) h.0), names_put xs h.1)

module _ (name : ℕ) where
  without_unnamed : (g : Socket → ℕ) (xs : List Socket) → Each (λ y. has_name name y ≡ false) xs → total g (without name xs) ≡ total g xs
  without_unnamed g [] h = refl
  without_unnamed g (x ∷ xs) h =
      omega (arith, ap (λ (b : Bool). total g (cond (not b) (x ∷ without name xs) (without name xs))) h.0, without_unnamed g xs h.1)

  without_at : (g : Socket → ℕ) (x s : Socket) (xs : List Socket) → (has_name name x ≡ true) ⊎ (has_name name x ≡ false) → Each (NamesDiffer x) xs
      → (Listed name xs s → total g (without name xs) + g s ≡ total g xs)
      → Listed name (x ∷ xs) s → total g (without name (x ∷ xs)) + g s ≡ total g (x ∷ xs)
  without_at g x s xs (inl e) names later h =
      let is : x ≡ s = some_same x s (rw e at h) in
      omega (arith, ap (λ (b : Bool). total g (cond (not b) (x ∷ without name xs) (without name xs))) e, without_unnamed g xs (each_other name x xs e names), ap g is)
  without_at g x s xs (inr e) names later h =
      omega (arith, ap (λ (b : Bool). total g (cond (not b) (x ∷ without name xs) (without name xs))) e, later (rw e at h))

  -- the socket of that name weighs no more
  pub without_weighs : (g : Socket → ℕ) (s : Socket) (xs : List Socket) → Pairs NamesDiffer xs → Listed name xs s → total g (without name xs) + g s ≡ total g xs
  without_weighs g s [] names h = absurd (cc)
  without_weighs g s (x ∷ xs) names h = without_at g x s xs (cases_Bool (has_name name x)) names.0 (without_weighs g s xs names.1) h

  kept : (g : Socket → ℕ) (x : Socket) (ys : List Socket) (b : Bool) → has_name name x ≡ b → ((x : Socket) → has_name name x ≡ false → g x ≡ 0) → total g ys ≡ 0
      → total g (cond (not b) (x ∷ ys) ys) ≡ 0
  kept g x ys true e h n = n
  kept g x ys false e h n = omega (arith, h x e, n)

  -- what weighs nothing but at that name
  pub others_weigh_none : (g : Socket → ℕ) (xs : List Socket) → ((x : Socket) → has_name name x ≡ false → g x ≡ 0) → total g (without name xs) ≡ 0
  others_weigh_none g [] h = refl
  others_weigh_none g (x ∷ xs) h = kept g x (without name xs) (has_name name x) refl h (others_weigh_none g xs h)
