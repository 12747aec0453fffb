-- Facts of each item, and of each pair, where the first item that passes a test is changed or taken out.
use Rattle.std.proofs.Common.{◌≡◌, Bool, true, false, List, [], ◌∷◌, cond, find, Some, None, refl, subst}
use Rattle.list_words.specs.Lists.{Each, Pairs}
use Rattle.list_words.proofs.EachLemmas.{each_found, some_same}
use Rattle.bind_buckets.specs.First.{change_first, drop_first}

module _ {A : Type 0} (is : A → Bool) where
  -- none passes
  unless_found_by : (x : A) (xs : List A) (b : Bool) → is x ≡ b → (find is xs ≡ None → Each (λ y. is y ≡ false) xs) → cond b (Some x) (find is xs) ≡ None → Each (λ y. is y ≡ false) (x ∷ xs)
  unless_found_by x xs true e rest h = absurd (cc)
  unless_found_by x xs false e rest h = (e, rest h)

  pub each_unless_found : (xs : List A) → find is xs ≡ None → Each (λ x. is x ≡ false) xs
  each_unless_found [] h = tt
  each_unless_found (x ∷ xs) h = unless_found_by x xs (is x) refl (each_unless_found xs) h

  module _ (P : A → Type 0) where
    dropped_by : (x : A) (xs rest : List A) (b : Bool) → P x → Each P xs → Each P rest → Each P (cond b xs (x ∷ rest))
    dropped_by x xs rest true p q r = q
    dropped_by x xs rest false p q r = (p, r)

    pub each_drop : (xs : List A) → Each P xs → Each P (drop_first is xs)
    each_drop [] p = tt
    each_drop (x ∷ xs) p = dropped_by x xs (drop_first is xs) (is x) p.0 p.1 (each_drop xs p.1)

    changed_by : (x y : A) (xs rest : List A) (b : Bool) → P y → P x → Each P xs → Each P rest → Each P (cond b (y ∷ xs) (x ∷ rest))
    changed_by x y xs rest true q p each r = (q, each)
    changed_by x y xs rest false q p each r = (p, r)

    pub each_change : (f : A → A) (xs : List A) → ((x : A) → P x → P (f x)) → Each P xs → Each P (change_first is f xs)
    each_change f [] h p = tt
    each_change f (x ∷ xs) h p =
        changed_by x (f x) xs (change_first is f xs) (is x) (h x p.0) p.0 p.1 (each_change f xs h p.1)

    first_changed_by : (f : A → A) (x : A) (xs : List A) (s : A) (b : Bool) → P (f s) → (find is xs ≡ Some s → Each P (drop_first is xs) → Each P (change_first is f xs)) → cond b (Some x) (find is xs) ≡ Some s → Each P (cond b xs (x ∷ drop_first is xs)) → Each P (cond b (f x ∷ xs) (x ∷ change_first is f xs))
    first_changed_by f x xs s true q rest h p =
        let same : s ≡ x = cc in
        (subst (λ y. P (f y)) same q, p)
    first_changed_by f x xs s false q rest h p = (p.0, rest h p.1)

    -- the others are as they are, and so is what becomes of the first
    pub each_first_changed : (f : A → A) (xs : List A) (s : A) → P (f s) → find is xs ≡ Some s → Each P (drop_first is xs) → Each P (change_first is f xs)
    each_first_changed f [] s q h p = tt
    each_first_changed f (x ∷ xs) s q h p =
        first_changed_by f x xs s (is x) q (each_first_changed f xs s q) h p

  module _ (R : A → A → Type 0) where
    pairs_dropped_by : (x : A) (xs rest : List A) (b : Bool) → Each (R x) rest → Pairs R xs → Pairs R rest → Pairs R (cond b xs (x ∷ rest))
    pairs_dropped_by x xs rest true p q r = q
    pairs_dropped_by x xs rest false p q r = (p, r)

    pub pairs_drop : (xs : List A) → Pairs R xs → Pairs R (drop_first is xs)
    pairs_drop [] p = tt
    pairs_drop (x ∷ xs) p =
        pairs_dropped_by x xs (drop_first is xs) (is x) (each_drop (R x) xs p.0) p.1 (pairs_drop xs p.1)

    first_by : (x : A) (xs : List A) (s : A) (b : Bool) → ((a c : A) → R a c → R c a) → Each (R x) xs → (find is xs ≡ Some s → Each (R s) (drop_first is xs)) → cond b (Some x) (find is xs) ≡ Some s → Each (R s) (cond b xs (x ∷ drop_first is xs))
    first_by x xs s true swap p rest h = subst (λ y. Each (R y) xs) (some_same x s h) p
    first_by x xs s false swap p rest h = (swap x s (each_found (R x) is xs s p h), rest h)

    -- the first, and each of the others
    pub pairs_first : (xs : List A) (s : A) → ((a c : A) → R a c → R c a) → Pairs R xs → find is xs ≡ Some s → Each (R s) (drop_first is xs)
    pairs_first [] s swap p h = tt
    pairs_first (x ∷ xs) s swap p h = first_by x xs s (is x) swap p.0 (pairs_first xs s swap p.1) h

    pair_changed_by : (f : A → A) (x : A) (xs : List A) (s : A) (b : Bool) → ((a c : A) → R a c → R c a) → Each (R x) xs → Pairs R xs → (find is xs ≡ Some s → Each (R (f s)) (drop_first is xs) → Pairs R (change_first is f xs)) → cond b (Some x) (find is xs) ≡ Some s → Each (R (f s)) (cond b xs (x ∷ drop_first is xs)) → Pairs R (cond b (f x ∷ xs) (x ∷ change_first is f xs))
    pair_changed_by f x xs s true swap p q rest h r =
        let same : s ≡ x = cc in
        (subst (λ y. Each (R (f y)) xs) same r, q)
    pair_changed_by f x xs s false swap p q rest h r =
        (each_first_changed (R x) f xs s (swap (f s) x r.0) h (each_drop (R x) xs p), rest h r.1)

    -- the first is changed, and what becomes of it stands so to the others
    pub pairs_change : (f : A → A) (xs : List A) (s : A) → ((a c : A) → R a c → R c a) → Pairs R xs → find is xs ≡ Some s → Each (R (f s)) (drop_first is xs) → Pairs R (change_first is f xs)
    pairs_change f [] s swap p h r = tt
    pairs_change f (x ∷ xs) s swap p h r =
        pair_changed_by f x xs s (is x) swap p.0 p.1 (pairs_change f xs s swap p.1) h r
