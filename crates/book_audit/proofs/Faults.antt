-- The first line that fails a test, once those before it passed.
use Rattle.std.proofs.Common.{◌≡◌, ℕ, ◌+◌, ◌<◌, Bool, true, false, List, [], ◌∷◌, take, length, get_or, subst, sym, ◌∙◌}
use Rattle.std.specs.List.{list_any, list_all}
use Rattle.std.proofs.lemmas.Bool.{true≢false}
use Rattle.list_words.specs.Lists.{Each}
use Rattle.list_words.proofs.EachLemmas.{each_unless_any, none_any}
use Rattle.race_book.proofs.Checks.{and_left, and_right}
use Rattle.book_audit.specs.declared.printed.PrintedLife.{PrintedLife}
use Rattle.book_audit.specs.Lines.{NoTwo, AreStamped, ascends, shares_number}
use Rattle.book_audit.specs.Findings.{FailsAt}
use Rattle.book_audit.proofs.Prefixes.{each_line, each_last, pairs_line, pairs_last}

pub each_fails : {A : Type 0} (P : A → Type 0) (xs : List A) (at : ℕ) (d : A) → at < length xs → Each P (take at xs) → (P (get_or xs at d) → ⊥) → FailsAt (Each P) xs at
each_fails P xs at d l e n = record { within = l; before = e; fails = λ f. n (each_last P xs at d l f) }

module _ (clash : PrintedLife → PrintedLife → Bool) (lives : List PrintedLife) (at : ℕ) (d : PrintedLife) (l : at < length lives) where
  abbrev pub clashes_there : Bool
  clashes_there = list_any (λ (m : PrintedLife). clash m (get_or lives at d)) (take at lives)

  pub clash_line : NoTwo clash (take at lives) → clashes_there ≡ false → NoTwo clash (take (at + 1) lives)
  clash_line e n = pairs_line (λ m k. clash m k ≡ false) lives at d l e (each_unless_any (λ m. clash m (get_or lives at d)) (take at lives) n)

  pub clash_last : NoTwo clash (take (at + 1) lives) → clashes_there ≡ true → ⊥
  clash_last e n = true≢false (sym n ∙ none_any (λ m. clash m (get_or lives at d)) (take at lives) (pairs_last (λ m k. clash m k ≡ false) lives at d l e))

  pub clash_fails : NoTwo clash (take at lives) → clashes_there ≡ true → FailsAt (NoTwo clash) lives at
  clash_fails e n = record { within = l; before = e; fails = λ f. clash_last f n }

module _ (clock : ℕ) (lives : List PrintedLife) (at : ℕ) (d : PrintedLife) (l : at < length lives) where
  abbrev Ascends : PrintedLife → Type 0
  Ascends m = ascends clock m ≡ true

  pub stamped_line : AreStamped clock (take at lives) → Ascends (get_or lives at d) → clashes_there shares_number lives at d l ≡ false → AreStamped clock (take (at + 1) lives)
  stamped_line e a n = record { ascend = each_line Ascends lives at d l e.ascend a; differ = clash_line shares_number lives at d l e.differ n }

  pub falling_fails : AreStamped clock (take at lives) → ascends clock (get_or lives at d) ≡ false → FailsAt (AreStamped clock) lives at
  falling_fails e n = record { within = l; before = e; fails = λ f. true≢false (sym (each_last Ascends lives at d l f.ascend) ∙ n) }

  pub sharing_fails : AreStamped clock (take at lives) → clashes_there shares_number lives at d l ≡ true → FailsAt (AreStamped clock) lives at
  sharing_fails e n = record { within = l; before = e; fails = λ f. clash_last shares_number lives at d l f.differ n }

-- a test that every item passes
pub each_all : {A : Type 0} (test : A → Bool) (xs : List A) → list_all test xs ≡ true → Each (λ x. test x ≡ true) xs
each_all test [] e = tt
each_all test (x ∷ xs) e = (and_left (test x) (list_all test xs) e, each_all test xs (and_right (test x) (list_all test xs) e))

-- the same of a list that was read as another
pub each_line_of : {A : Type 0} (P : A → Type 0) (xs ys : List A) (at : ℕ) (d : A) → ys ≡ xs → at < length ys → Each P (take at xs) → P (get_or ys at d) → Each P (take (at + 1) xs)
each_line_of P xs ys at d same l e p =
    each_line P xs at d (subst (λ zs. at < length zs) same l) e (subst (λ zs. P (get_or zs at d)) same p)

pub each_fails_of : {A : Type 0} (P : A → Type 0) (xs ys : List A) (at : ℕ) (d : A) → ys ≡ xs → at < length ys → Each P (take at xs) → (P (get_or ys at d) → ⊥) → FailsAt (Each P) xs at
each_fails_of P xs ys at d same l e n =
    each_fails P xs at d (subst (λ zs. at < length zs) same l) e (λ p. n (subst (λ zs. P (get_or zs at d)) (sym same) p))
