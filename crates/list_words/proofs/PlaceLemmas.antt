-- Lists that change at one place or at their end: facts of each item, and what all weigh.
use Rattle.std.proofs.Common.{◌≡◌, ◌≢◌, ℕ, zero, suc, ◌+◌, ◌*◌, ◌<◌, ◌≤◌, List, [], ◌∷◌, ◌++◌, set, length, sym, refl, ap, subst, arith}
use mathlib.Core.Option.{some, some-injective, some-ne-none}
use lib.ListN.{get_elem?}
use Rattle.list_words.specs.Lists.{total}

module _ {A : Type 0} where
  -- who is there is within the length
  pub at_below : (l : List A) (k : ℕ) (a : A) → get_elem? l k ≡ some a → k < length l
  at_below [] k a e = absurd (some-ne-none a (sym e))
  at_below (x ∷ xs) zero a e = omega arith
  at_below (x ∷ xs) (suc k) a e = omega (arith, at_below xs k a e)

  -- the one item of a list
  pub only_one : (v u : A) (k : ℕ) → get_elem? (v ∷ []) k ≡ some u → v ≡ u
  only_one v u zero e = some-injective v u e
  only_one v u (suc k) e = absurd (some-ne-none u (sym e))

  -- a fact of each item, after one changed
  pub each_set : (l : List A) (i : ℕ) (w : A) (P : A → Type 0) → P w → ((k : ℕ) (u : A) → k ≢ i → get_elem? l k ≡ some u → P u) → (k : ℕ) (u : A) → get_elem? (set l i w) k ≡ some u → P u
  each_set [] i w P here there k u e = absurd (some-ne-none u (sym e))
  each_set (x ∷ xs) zero w P here there zero u e = subst P (some-injective w u e) here
  each_set (x ∷ xs) zero w P here there (suc k) u e = there (suc k) u (λ h. absurd (omega arith)) e
  each_set (x ∷ xs) (suc i) w P here there zero u e = there zero u (λ h. absurd (omega arith)) e
  each_set (x ∷ xs) (suc i) w P here there (suc k) u e = each_set xs i w P here (λ j y n d. there (suc j) y (λ h. n (omega arith)) d) k u e

  -- after another came last
  pub each_snoc : (l : List A) (n : A) (P : A → Type 0) → P n → ((k : ℕ) (u : A) → get_elem? l k ≡ some u → P u) → (k : ℕ) (u : A) → get_elem? (l ++ n ∷ []) k ≡ some u → P u
  each_snoc [] n P last there k u e = subst P (only_one n u k e) last
  each_snoc (x ∷ xs) n P last there zero u e = there zero u e
  each_snoc (x ∷ xs) n P last there (suc k) u e = each_snoc xs n P last (λ j y d. there (suc j) y d) k u e

  -- after one changed, and another came last
  pub each_set_snoc : (l : List A) (i : ℕ) (w n : A) (P : A → Type 0) → P w → P n → ((k : ℕ) (u : A) → k ≢ i → get_elem? l k ≡ some u → P u) → (k : ℕ) (u : A) → get_elem? (set l i w ++ n ∷ []) k ≡ some u → P u
  each_set_snoc l i w n P here last there = each_snoc (set l i w) n P last (each_set l i w P here there)

  -- after two changed
  pub each_set_two : (l : List A) (i j : ℕ) (w n : A) (P : A → Type 0) → P w → P n → ((k : ℕ) (u : A) → get_elem? l k ≡ some u → P u) → (k : ℕ) (u : A) → get_elem? (set (set l i w) j n) k ≡ some u → P u
  each_set_two l i j w n P here too there = each_set (set l i w) j n P too (λ k u _ e. each_set l i w P here (λ q y _ d. there q y d) k u e)

  pub length_push : (l : List A) (n : A) → length (l ++ n ∷ []) ≡ length l + 1
  length_push [] n = refl
  length_push (x ∷ xs) n = omega (arith, length_push xs n)

  -- where each item weighs within c times another weight, so do all
  pub total-within : (c : ℕ) (g h : A → ℕ) (l : List A) → ((k : ℕ) (v : A) → get_elem? l k ≡ some v → g v ≤ h v * c) → total g l ≤ total h l * c
  total-within c g h [] p = omega arith
  total-within c g h (x ∷ xs) p = let a = p 0 x refl in let b = total-within c g h xs (λ k v e. p (suc k) v e) in grind arith

  module _ (g : A → ℕ) where
    -- what all weigh, after one changed
    pub total-set : (l : List A) (j : ℕ) (v w : A) → get_elem? l j ≡ some v → total g (set l j w) + g v ≡ total g l + g w
    total-set [] j v w e = absurd (some-ne-none v (sym e))
    total-set (x ∷ xs) zero v w e = omega (arith, ap g (some-injective x v e))
    total-set (x ∷ xs) (suc j) v w e = omega (arith, total-set xs j v w e)

    -- one item weighs no more than all
    pub term_le : (l : List A) (j : ℕ) (v : A) → get_elem? l j ≡ some v → g v ≤ total g l
    term_le [] j v e = absurd (some-ne-none v (sym e))
    term_le (x ∷ xs) zero v e = omega (arith, ap g (some-injective x v e))
    term_le (x ∷ xs) (suc j) v e = omega (arith, term_le xs j v e)

    -- where all weigh nothing, no item weighs anything
    pub no_terms : (l : List A) (k : ℕ) (a : A) → 0 < g a → get_elem? l k ≡ some a → total g l ≡ 0 → ⊥
    no_terms l k a weighs e none = omega (arith, none, weighs, term_le l k a e)

    -- two items weigh no more than all
    pub terms_le : (l : List A) (j k : ℕ) (v u : A) → k ≢ j → get_elem? l j ≡ some v → get_elem? l k ≡ some u → g v + g u ≤ total g l
    terms_le [] j k v u n e d = absurd (some-ne-none v (sym e))
    terms_le (x ∷ xs) zero zero v u n e d = absurd (n refl)
    terms_le (x ∷ xs) zero (suc k) v u n e d = omega (arith, ap g (some-injective x v e), term_le xs k u d)
    terms_le (x ∷ xs) (suc j) zero v u n e d = omega (arith, ap g (some-injective x u d), term_le xs j v e)
    terms_le (x ∷ xs) (suc j) (suc k) v u n e d = omega (arith, terms_le xs j k v u (λ h. n (ap suc h)) e d)

    -- where none weighs anything, all weigh nothing
    pub total-none : (l : List A) → ((k : ℕ) (u : A) → get_elem? l k ≡ some u → g u ≡ 0) → total g l ≡ 0
    total-none [] h = refl
    total-none (x ∷ xs) h = omega (arith, h zero x refl, total-none xs (λ k u d. h (suc k) u d))

    -- where only one weighs anything, all weigh what it does
    pub total-alone : (l : List A) (j : ℕ) (v : A) → get_elem? l j ≡ some v → ((k : ℕ) (u : A) → k ≢ j → get_elem? l k ≡ some u → g u ≡ 0) → total g l ≡ g v
    total-alone [] j v e h = absurd (some-ne-none v (sym e))
    total-alone (x ∷ xs) zero v e h = omega (arith, ap g (some-injective x v e), total-none xs (λ k u d. h (suc k) u (λ z. absurd (omega arith)) d))
    total-alone (x ∷ xs) (suc j) v e h = omega (arith, h zero x (λ z. absurd (omega arith)) refl, total-alone xs j v e (λ k u n d. h (suc k) u (λ z. n (omega arith)) d))
