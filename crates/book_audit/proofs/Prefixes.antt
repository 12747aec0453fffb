-- Tests of the first so many lines.
use Rattle.std.proofs.Common.{ℕ, ◌+◌, ◌<◌, List, [], ◌∷◌, take, length, get_or, sym, subst}
use Rattle.std.proofs.lemmas.List.{take_more}
use Rattle.list_words.specs.Lists.{Each, Pairs}
use Rattle.list_words.proofs.EachLemmas.{each_push, each_back}
use Rattle.list_words.proofs.PairsLemmas.{pairs_push}
use Rattle.race_book.proofs.Joined.{pairs_across}

module _ {A : Type 0} where
  heads : (R : A → A → Type 0) (x : A) (xs : List A) → Each (λ y. Each (R y) (x ∷ [])) xs → Each (λ y. R y x) xs
  heads R x [] e = tt
  heads R x (y ∷ ys) e = (e.0.0, heads R x ys e.1)

  -- one line more, and what that says of it
  pub each_line : (P : A → Type 0) (xs : List A) (i : ℕ) (d : A) → i < length xs → Each P (take i xs) → P (get_or xs i d) → Each P (take (i + 1) xs)
  each_line P xs i d l e p = subst (λ ys. Each P ys) (sym (take_more xs i d l)) (each_push P (take i xs) (get_or xs i d) e p)

  pub each_last : (P : A → Type 0) (xs : List A) (i : ℕ) (d : A) → i < length xs → Each P (take (i + 1) xs) → P (get_or xs i d)
  each_last P xs i d l e =
      (each_back P (take i xs) (get_or xs i d ∷ []) (subst (λ ys. Each P ys) (take_more xs i d l) e)).0

  pub pairs_line : (R : A → A → Type 0) (xs : List A) (i : ℕ) (d : A) → i < length xs → Pairs R (take i xs) → Each (λ y. R y (get_or xs i d)) (take i xs) → Pairs R (take (i + 1) xs)
  pairs_line R xs i d l e p = subst (λ ys. Pairs R ys) (sym (take_more xs i d l)) (pairs_push R (take i xs) (get_or xs i d) e p)

  pub pairs_last : (R : A → A → Type 0) (xs : List A) (i : ℕ) (d : A) → i < length xs → Pairs R (take (i + 1) xs) → Each (λ y. R y (get_or xs i d)) (take i xs)
  pairs_last R xs i d l e = heads R (get_or xs i d) (take i xs)
      (pairs_across R (take i xs) (get_or xs i d ∷ []) (subst (λ ys. Pairs R ys) (take_more xs i d l) e))
