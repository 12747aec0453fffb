-- What stands in lists that are made of others.
use Rattle.std.proofs.Common.{◌≡◌, Bool, true, false, List, [], ◌∷◌, ◌++◌, map, filter, cond, refl, sym, ap, ◌∙◌, ◌⊎◌, inl, inr}
use Rattle.std.proofs.lemmas.Bool.{true≢false}
use Rattle.race_book.specs.Among.{Among}

module _ {A : Type 0} where
  -- two lists joined
  pub among_either : (x : A) (xs ys : List A) → Among (xs ++ ys) x → Among xs x ⊎ Among ys x
  among_either x [] ys a = inr a
  among_either x (y ∷ xs) ys (inl p) = inl (inl p)
  among_either x (y ∷ xs) ys (inr a) = elim (among_either x xs ys a) as (λ _. Among (y ∷ xs) x ⊎ Among ys x) [ inl p ↦ inl (inr p) | inr q ↦ inr q ]

  pub among_left : (x : A) (xs ys : List A) → Among xs x → Among (xs ++ ys) x
  among_left x [] ys a = absurd a
  among_left x (y ∷ xs) ys (inl p) = inl p
  among_left x (y ∷ xs) ys (inr a) = inr (among_left x xs ys a)

  pub among_right : (x : A) (xs ys : List A) → Among ys x → Among (xs ++ ys) x
  among_right x [] ys a = a
  among_right x (y ∷ xs) ys a = inr (among_right x xs ys a)

  -- what passes a test
  pub record Kept (test : A → Bool) (xs : List A) (x : A) : Type 0 where
    pub there : Among xs x
    pub passes : test x ≡ true

  kept_by : (test : A → Bool) (y : A) (ys : List A) (x : A) → (Among (filter test ys) x → Kept test ys x) → (b : Bool) → test y ≡ b → Among (cond b (y ∷ filter test ys) (filter test ys)) x → Kept test (y ∷ ys) x
  kept_by test y ys x more true e (inl p) = record { there = inl p; passes = ap test p ∙ e }
  kept_by test y ys x more true e (inr a) = let r = more a in record { there = inr r.there; passes = r.passes }
  kept_by test y ys x more false e a = let r = more a in record { there = inr r.there; passes = r.passes }

  pub kept_of : (test : A → Bool) (xs : List A) (x : A) → Among (filter test xs) x → Kept test xs x
  kept_of test [] x a = absurd a
  kept_of test (y ∷ ys) x a = kept_by test y ys x (kept_of test ys x) (test y) refl a

  keeps_by : (test : A → Bool) (y : A) (ys : List A) (x : A) → test x ≡ true → (Among ys x → Among (filter test ys) x) → (b : Bool) → test y ≡ b → Among (y ∷ ys) x → Among (cond b (y ∷ filter test ys) (filter test ys)) x
  keeps_by test y ys x t more true e (inl p) = inl p
  keeps_by test y ys x t more true e (inr a) = inr (more a)
  keeps_by test y ys x t more false e (inl p) = absurd (true≢false (sym t ∙ ap test p ∙ e))
  keeps_by test y ys x t more false e (inr a) = more a

  pub keeps : (test : A → Bool) (xs : List A) (x : A) → test x ≡ true → Among xs x → Among (filter test xs) x
  keeps test [] x t a = absurd a
  keeps test (y ∷ ys) x t a = keeps_by test y ys x t (keeps test ys x t) (test y) refl a

module _ {A B : Type 0} (f : A → B) where
  pub among_map : (xs : List A) (x : A) → Among xs x → Among (map f xs) (f x)
  among_map [] x a = absurd a
  among_map (y ∷ ys) x (inl p) = inl (ap f p)
  among_map (y ∷ ys) x (inr a) = inr (among_map ys x a)

  -- that of which an item is made
  pub record Made (xs : List A) (y : B) : Type 0 where
    pub of : A
    pub there : Among xs of
    pub is : y ≡ f of

  pub made_of : (xs : List A) (y : B) → Among (map f xs) y → Made xs y
  made_of [] y a = absurd a
  made_of (x ∷ xs) y (inl p) = record { of = x; there = inl refl; is = p }
  made_of (x ∷ xs) y (inr a) =
      let m : Made xs y = made_of xs y a in record { of = m.of; there = inr m.there; is = m.is }
