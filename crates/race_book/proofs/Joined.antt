-- Of lists that are joined: what holds of each item, or of each pair, holds of the parts.
use Rattle.std.proofs.Common.{List, [], ◌∷◌, ◌++◌}
use Rattle.std.specs.List.{flat_map}
use Rattle.list_words.specs.Lists.{Each, Pairs}
use Rattle.list_words.proofs.EachLemmas.{each_append, each_back, each_front}

module _ {A : Type 0} where
  pub pairs_front : (R : A → A → Type 0) (xs ys : List A) → Pairs R (xs ++ ys) → Pairs R xs
  pairs_front R [] ys e = tt
  pairs_front R (x ∷ xs) ys e = (each_front (R x) xs ys e.0, pairs_front R xs ys e.1)

  pub pairs_across : (R : A → A → Type 0) (xs ys : List A) → Pairs R (xs ++ ys) → Each (λ x. Each (R x) ys) xs
  pairs_across R [] ys e = tt
  pairs_across R (x ∷ xs) ys e = (each_back (R x) xs ys e.0, pairs_across R xs ys e.1)

  pub pairs_back : (R : A → A → Type 0) (xs ys : List A) → Pairs R (xs ++ ys) → Pairs R ys
  pairs_back R [] ys e = e
  pairs_back R (x ∷ xs) ys e = pairs_back R xs ys e.1

  -- of many lists that are joined
  pub each_flat : {X : Type 0} (P : A → Type 0) (g : X → List A) (xs : List X) → Each (λ x. Each P (g x)) xs → Each P (flat_map g xs)
  each_flat P g [] h = tt
  each_flat P g (x ∷ xs) h = each_append P (g x) (flat_map g xs) h.0 (each_flat P g xs h.1)

  pub each_unflat : {X : Type 0} (P : A → Type 0) (g : X → List A) (xs : List X) → Each P (flat_map g xs) → Each (λ x. Each P (g x)) xs
  each_unflat P g [] h = tt
  each_unflat P g (x ∷ xs) h = (each_front P (g x) (flat_map g xs) h, each_unflat P g xs (each_back P (g x) (flat_map g xs) h))
