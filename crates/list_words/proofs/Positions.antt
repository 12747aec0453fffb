-- The first place of an item in a list that has one item more at its end.
use Rattle.std.proofs.Common.{◌≡◌, ℕ, ◌+◌, ◌≤◌, List, [], ◌∷◌, ◌++◌, length, length-append, Some, None, Bool, true, false, cond, arith, ltb, eqb}
use Rattle.std.specs.Prelude.{position}
use Rattle.std.specs.List.{position_or_len}
use Rattle.std.proofs.lemmas.Bool.Decides.{nat_tests}
use Rattle.std.proofs.lemmas.List.Folds.{position_or_len_push}
use Rattle.std.proofs.lemmas.List.Sums.{prefix_len-le-length}

-- c the first place in the longer list of m items, a that in the shorter of n, b whether the new item has the property
new_by : (a n c m : ℕ) (b : Bool) → a ≤ n → cond (ltb a n) (Some a) None ≡ None → b ≡ true → c ≡ cond (eqb a n) (n + cond b 0 1) a → m ≡ n + 1 → cond (ltb c m) (Some c) None ≡ Some n
new_by a n c m b le h e is len = grind (arith, nat_tests)

other_by : (a n c m : ℕ) (b : Bool) → a ≤ n → b ≡ false → c ≡ cond (eqb a n) (n + cond b 0 1) a → m ≡ n + 1 → cond (ltb c m) (Some c) None ≡ cond (ltb a n) (Some a) None
other_by a n c m b le e is len = grind (arith, nat_tests)

kept_by : (a n c m i : ℕ) (b : Bool) → a ≤ n → cond (ltb a n) (Some a) None ≡ Some i → c ≡ cond (eqb a n) (n + cond b 0 1) a → m ≡ n + 1 → cond (ltb c m) (Some c) None ≡ cond (ltb a n) (Some a) None
kept_by a n c m i b le h is len = grind (arith, nat_tests)

-- the first place in a list with one item more
module _ {A : Type 0} (p : A → Bool) (xs : List A) (y : A) where
  in_bounds : position_or_len p xs ≤ length xs
  in_bounds = prefix_len-le-length _ xs

  -- where none had the property, the new item is the first that has it
  pub pushed_new : position p xs ≡ None → p y ≡ true → position p (xs ++ y ∷ []) ≡ Some (length xs)
  pushed_new h e = new_by (position_or_len p xs) (length xs) (position_or_len p (xs ++ y ∷ [])) (length (xs ++ y ∷ [])) (p y) in_bounds h e (position_or_len_push p xs y) (length-append xs (y ∷ []))

  -- an item without it changes nothing
  pub pushed_other : p y ≡ false → position p (xs ++ y ∷ []) ≡ position p xs
  pushed_other e = other_by (position_or_len p xs) (length xs) (position_or_len p (xs ++ y ∷ [])) (length (xs ++ y ∷ [])) (p y) in_bounds e (position_or_len_push p xs y) (length-append xs (y ∷ []))

  -- nor does one more where some item had it
  pub pushed_again : (i : ℕ) → position p xs ≡ Some i → position p (xs ++ y ∷ []) ≡ position p xs
  pushed_again i h = kept_by (position_or_len p xs) (length xs) (position_or_len p (xs ++ y ∷ [])) (length (xs ++ y ∷ [])) i (p y) in_bounds h (position_or_len_push p xs y) (length-append xs (y ∷ []))
