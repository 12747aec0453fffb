-- The first item that passes a test, by its place.
use Rattle.std.proofs.Common.{◌≡◌, ℕ, ◌<◌, ◌≤◌, Bool, true, false, List, [], ◌∷◌, length, get_or, arith, refl, sym, ◌∙◌, ap, subst, Some, None, find, position, slice_get}
use Rattle.std.proofs.Math.ListN.{set}
use Rattle.std.specs.List.{position_or_len, list_any}
use Rattle.std.proofs.lemmas.List.Folds.{find_at}
use Rattle.std.proofs.lemmas.Option.{slice_get-get_or, slice_get_past}
use Rattle.std.proofs.lemmas.List.Quantifiers.{position-Some}
use Rattle.bind_buckets.specs.First.{change_first}

module _ {A : Type 0} (is : A → Bool) where
  -- what `position` says of the first place
  pub place_is : (xs : List A) (i : ℕ) → position is xs ≡ Some i → (i ≡ position_or_len is xs) × (i < length xs)
  place_is xs i h = grind (arith, h)

  no_place : (xs : List A) → position is xs ≡ None → length xs ≤ position_or_len is xs
  no_place xs h = grind (arith, h)

  change_there : (f : A → A) (xs : List A) (d : A) → position_or_len is xs < length xs → change_first is f xs ≡ set xs (position_or_len is xs) (f (get_or xs (position_or_len is xs) d))
  change_there f [] d h = absurd (omega arith)
  change_there f (x ∷ xs) d h = grind (arith, change_there f xs d)

  pub changes_at : (f : A → A) (xs : List A) (i : ℕ) (x : A) → position is xs ≡ Some i → x ≡ get_or xs i x → change_first is f xs ≡ set xs i (f x)
  changes_at f xs i x h read =
      let place = place_is xs i h in
      change_there f xs x (subst (λ k. k < length xs) place.0 place.1)
      ∙ ap (λ k. set xs k (f (get_or xs k x))) (sym place.0) ∙ ap (λ y. set xs i (f y)) (sym read)

  pub found_at : (xs : List A) (i : ℕ) (x : A) → position is xs ≡ Some i → x ≡ get_or xs i x → find is xs ≡ Some x
  found_at xs i x h read =
      let place = place_is xs i h in
      find_at is xs ∙ ap (slice_get xs) (sym place.0) ∙ slice_get-get_or xs i x place.1 ∙ ap Some (sym read)

  pub absent : (xs : List A) → position is xs ≡ None → find is xs ≡ None
  absent xs h = find_at is xs ∙ slice_get_past xs _ (no_place xs h)

  passes_nowhere : (xs : List A) → length xs ≤ position_or_len is xs → list_any is xs ≡ false
  passes_nowhere [] h = refl
  passes_nowhere (x ∷ xs) h = grind (arith, passes_nowhere xs)

  pub none_passes : (xs : List A) → position is xs ≡ None → list_any is xs ≡ false
  none_passes xs h = passes_nowhere xs (no_place xs h)

  unchanged_past : (f : A → A) (xs : List A) → length xs ≤ position_or_len is xs → change_first is f xs ≡ xs
  unchanged_past f [] h = refl
  unchanged_past f (x ∷ xs) h = grind (arith, unchanged_past f xs)

  pub unchanged : (f : A → A) (xs : List A) → position is xs ≡ None → change_first is f xs ≡ xs
  unchanged f xs h = unchanged_past f xs (no_place xs h)

  pub passes_at : (xs : List A) (i : ℕ) (x : A) → position is xs ≡ Some i → x ≡ get_or xs i x → is x ≡ true
  passes_at xs i x h read = rw read (position-Some is xs i x h).1
