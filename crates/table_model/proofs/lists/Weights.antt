-- Weights of lists, by the places of their items.
use Rattle.std.proofs.Common.{◌≡◌, ◌≢◌, ℕ, zero, suc, ◌+◌, ◌<◌, List, [], ◌∷◌, length, refl, arith, get_or, set}
use Rattle.list_words.specs.Lists.{total}

module _ {A : Type 0} where
  -- one item has changed
  pub total_set : (g : A → ℕ) (xs : List A) (i : ℕ) (y d : A) → i < length xs → total g (set xs i y) + g (get_or xs i d) ≡ total g xs + g y
  total_set g [] i y d h = absurd (omega arith)
  total_set g (x ∷ xs) zero y d h = omega arith
  total_set g (x ∷ xs) (suc i) y d h = omega (arith, total_set g xs i y d (omega arith))

  -- items that weigh nothing
  pub total_none : (g : A → ℕ) (xs : List A) (d : A) → ((j : ℕ) → g (get_or xs j d) ≡ 0) → total g xs ≡ 0
  total_none g [] d h = refl
  total_none g (x ∷ xs) d h = let here : g x ≡ 0 = h 0 in omega (arith, here, total_none g xs d (λ j. h (suc j)))

  -- one item alone weighs something
  pub total_only : (g : A → ℕ) (xs : List A) (i : ℕ) (d : A) → i < length xs → ((j : ℕ) → j ≢ i → g (get_or xs j d) ≡ 0) → total g xs ≡ g (get_or xs i d)
  total_only g [] i d l h = absurd (omega arith)
  total_only g (x ∷ xs) zero d l h =
      omega (arith, total_none g xs d (λ j. h (suc j) (λ e. absurd (omega (arith, e)))))
  total_only g (x ∷ xs) (suc i) d l h =
      let here : g x ≡ 0 = h 0 (λ e. absurd (omega (arith, e))) in
      omega (arith, here, total_only g xs i d (omega arith) (λ j n. h (suc j) (λ e. n (omega (arith, e)))))

  -- where all weigh nothing, each does
  pub part_none : (g : A → ℕ) (xs : List A) (i : ℕ) (d : A) → g d ≡ 0 → total g xs ≡ 0 → g (get_or xs i d) ≡ 0
  part_none g [] i d n h = n
  part_none g (x ∷ xs) zero d n h = omega (arith, h)
  part_none g (x ∷ xs) (suc i) d n h = part_none g xs i d n (omega (arith, h))
