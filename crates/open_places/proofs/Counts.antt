-- How many places of a page are kept.
use Rattle.std.proofs.Common.{◌≡◌, ◌≤◌, ℕ, zero, suc, ◌+◌, true, List, [], ◌∷◌, ◌++◌, length, Option, Some, None, is_some, set, refl, sym, ap, arith}
use Rattle.std.specs.List.{slice_index_or}
use Rattle.std.specs.Option.{option_map}
use Rattle.open_places.specs.Pages.{kept_on, one_if}

module _ {X : Type 0} where
  pub kept_more : (xs : List (Option X)) (c : Option X) → kept_on (xs ++ c ∷ []) ≡ kept_on xs + one_if c
  kept_more [] c = let same : one_if c + 0 ≡ 0 + one_if c = omega arith in same
  kept_more (x ∷ xs) c = let more = kept_more xs c in omega (arith, more)

  pub kept_set : (xs : List (Option X)) (i : ℕ) (c : Option X) → (slice_index_or xs i None ≡ None → c ≡ None) → kept_on (set xs i c) + one_if (slice_index_or xs i None) ≡ kept_on xs + one_if c
  kept_set [] i c past = ap (λ k. 0 + k) (ap one_if (sym (past refl)))
  kept_set (x ∷ xs) zero c past = let same : one_if c + kept_on xs + one_if x ≡ one_if x + kept_on xs + one_if c = omega arith in same
  kept_set (x ∷ xs) (suc i) c past = let rest = kept_set xs i c past in omega (arith, rest)

  one_at_most : (c : Option X) → one_if c ≤ 1
  one_at_most None = omega arith
  one_at_most (Some x) = omega arith

  pub kept_fit : (xs : List (Option X)) → kept_on xs ≤ length xs
  kept_fit [] = omega arith
  kept_fit (x ∷ xs) = let rest = kept_fit xs in omega (arith, rest, one_at_most x)

  pub none_kept : (xs : List (Option X)) → kept_on xs ≡ 0 → (i : ℕ) → slice_index_or xs i None ≡ None
  none_kept [] none i = refl
  none_kept (None ∷ xs) none zero = refl
  none_kept (None ∷ xs) none (suc i) = none_kept xs (omega (arith, none)) i
  none_kept (Some x ∷ xs) none i = absurd (omega (arith, none))

  pub one_of : (c : Option X) → is_some c ≡ true → one_if c ≡ 1
  one_of None h = absurd (cc)
  one_of (Some x) h = refl

-- a cell without its value is kept as it was
pub one_emptied : {Y : Type 0} (c : Option (Option Y)) → one_if (option_map {T = Option Y} {U = Option Y} (λ _. None) c) ≡ one_if c
one_emptied None = refl
one_emptied (Some x) = refl
