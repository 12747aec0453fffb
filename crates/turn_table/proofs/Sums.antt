-- Sums over lists, and lists that ascend.
use Rattle.std.proofs.Common.{◌≡◌, ℕ, zero, suc, ◌+◌, ◌*◌, ◌<◌, ◌≤◌, ◌⊎◌, List, [], ◌∷◌, ◌++◌, map, refl, ap, arith, inl, inr}
use mathlib.Core.Option.{some}
use lib.ListN.{get_elem?}
use Rattle.list_words.specs.Lists.{total, Each}
use Rattle.list_words.proofs.EachLemmas.{each_append, each_weaken, each_back}
use Rattle.list_words.proofs.PairsLemmas.{pairs_push}
use Rattle.list_words.proofs.TotalLemmas.{total-append}
use Rattle.turn_table.specs.Journals.{Ascends, numbers_below}
use Rattle.turn_table.specs.Turning.{below}

module _ {A : Type 0} where
  -- where each term is within its part of a budget, so is the sum
  pub total-within : (g h : A → ℕ) (l : List A) → ((k : ℕ) (v : A) → get_elem? l k ≡ some v → g v ≤ h v * 281474976710656) → total g l ≤ total h l * 281474976710656
  total-within g h [] p = omega arith
  total-within g h (x ∷ xs) p = let a = p 0 x refl in let b = total-within g h xs (λ k v e. p (suc k) v e) in omega arith

  -- a place of two lists put together is one of the first or of the second
  pub at_append : (l m : List A) (k : ℕ) (a : A) → get_elem? (l ++ m) k ≡ some a → (get_elem? l k ≡ some a) ⊎ ((j : ℕ) × (get_elem? m j ≡ some a))
  at_append [] m k a e = inr (k, e)
  at_append (x ∷ xs) m zero a e = inl e
  at_append (x ∷ xs) m (suc k) a e = at_append xs m k a e

  -- a sum over a mapped list
  pub total-map : {B : Type 0} (g : B → ℕ) (h : A → B) (l : List A) → total g (map h l) ≡ total (λ x. g (h x)) l
  total-map g h [] = refl
  total-map g h (x ∷ xs) = omega (arith, total-map g h xs)

-- a wider bound
pub ascends_more : (m n : ℕ) (l : List ℕ) → m ≤ n → Ascends m l → Ascends n l
ascends_more m n l h p = (each_weaken (λ x. x < m) (λ x. x < n) l (λ x q. omega arith) p.0, p.1)

-- one number more, above the others
pub ascends_push : (m n : ℕ) (l : List ℕ) (x : ℕ) → m ≤ x → x < n → Ascends m l → Ascends n (l ++ x ∷ [])
ascends_push m n l x h k p = (
  each_append (λ y. y < n) l (x ∷ []) (each_weaken (λ y. y < m) (λ y. y < n) l (λ y q. omega arith) p.0) (k, tt),
  pairs_push (λ y z. y < z) l x p.1 (each_weaken (λ y. y < m) (λ y. y < x) l (λ y q. omega arith) p.0),
)

-- the last ones are below the bound too
pub ascends_last : (n : ℕ) (l m : List ℕ) → Ascends n (l ++ m) → Each (λ x. x < n) m
ascends_last n l m p = each_back (λ x. x < n) l m p.0

-- one number more
pub below_more : (f : ℕ → ℕ) (n : ℕ) → below f (n + 1) ≡ below f n + f n
below_more f n = let e : n + 1 ≡ suc n = omega arith in ap (below f) e

-- as many numbers as the bound says
pub below-one : (n : ℕ) → below (λ (x : ℕ). 1) n ≡ n
below-one zero = refl
below-one (suc n) = omega (arith, below-one n)

-- what the numbers below n weigh, as a list
pub below_total : (f : ℕ → ℕ) (n : ℕ) → below f n ≡ total f (numbers_below n)
below_total f zero = refl
below_total f (suc n) = omega (arith, below_total f n, total-append f (numbers_below n) (n ∷ []))
