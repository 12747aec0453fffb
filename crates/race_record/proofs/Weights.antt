-- What lists weigh that are made of parts, and numbers in lists: those below a bound are there once each.
use Rattle.std.proofs.Common.{◌≡◌, ◌≢◌, ℕ, zero, suc, ◌+◌, ◌≤◌, ◌==◌, Bool, true, false, cond, List, [], ◌∷◌, refl, sym, ap, arith, ◌++◌, length, filter, length-append, ◌∙◌}
use Rattle.std.specs.List.{flat_map}
use Rattle.std.proofs.lemmas.Bool.{eqb-true, eq-eqb, ne_eqb}
use Rattle.std.proofs.lemmas.List.Elements.{filter-append}
use Rattle.list_words.specs.Lists.{Each, Pairs, total}
use Rattle.list_words.proofs.TotalLemmas.{total-append}
use Rattle.turn_table.specs.Journals.{numbers_below}

-- a list that is made of parts weighs what they weigh
pub total_flat : {X A : Type 0} (f : A → ℕ) (g : X → List A) (xs : List X) → total f (flat_map g xs) ≡ total (λ x. total f (g x)) xs
total_flat f g [] = refl
total_flat f g (x ∷ xs) = omega (arith, total-append f (g x) (flat_map g xs), total_flat f g xs)

-- each item weighs one
pub ones : {A : Type 0} (xs : List A) → total (λ x. 1) xs ≡ length xs
ones [] = refl
ones (x ∷ xs) = omega (arith, ones xs)

-- as many pass a test as of the parts
pub kept_join : {A : Type 0} (test : A → Bool) (xs ys : List A) → length (filter test (xs ++ ys)) ≡ length (filter test xs) + length (filter test ys)
kept_join test xs ys = ap length (filter-append test xs ys) ∙ length-append (filter test xs) (filter test ys)

-- whether the other number is that one
abbrev pub is : ℕ → ℕ → ℕ
is n m = cond (m == n) 1 0

pub is_self : (n : ℕ) → is n n ≡ 1
is_self n = ap {B = ℕ} (λ (b : Bool). cond b 1 0) (eq-eqb n n refl)

pub is_other : (n m : ℕ) → m ≢ n → is n m ≡ 0
is_other n m ne = ap {B = ℕ} (λ (b : Bool). cond b 1 0) (ne_eqb m n ne)

-- a number from the bound on isn't among those below it
pub beyond : (n c : ℕ) → c ≤ n → total (is n) (numbers_below c) ≡ 0
beyond n zero l = refl
beyond n (suc c) l = omega (arith, total-append (is n) (numbers_below c) (c ∷ []), beyond n c (omega (arith, l)), is_other n c (λ e. absurd (omega (arith, l, e))))

once_by : (n c : ℕ) → total (is n) (numbers_below c) ≤ 1 → (b : Bool) → (c == n) ≡ b → total (is n) (numbers_below c) + cond b 1 0 ≤ 1
once_by n c h true e = omega (arith, beyond n c (omega (arith, eqb-true c n e)))
once_by n c h false e = omega (arith, h)

-- none is there twice
pub once : (n c : ℕ) → total (is n) (numbers_below c) ≤ 1
once n zero = omega arith
once n (suc c) = omega (arith, total-append (is n) (numbers_below c) (c ∷ []), once_by n c (once n c) (c == n) refl)

none_equal : (x : ℕ) (xs : List ℕ) → total (is x) xs ≡ 0 → Each (λ (y : ℕ). x ≢ y) xs
none_equal x [] e = tt
none_equal x (y ∷ ys) e = (λ q. absurd (omega (arith, e, ap (is x) (sym q), is_self x)), none_equal x ys (omega (arith, e)))

pub all_differ : (xs : List ℕ) → ((n : ℕ) → total (is n) xs ≤ 1) → Pairs (λ (a b : ℕ). a ≢ b) xs
all_differ [] h = tt
all_differ (x ∷ xs) h = (none_equal x xs (omega (arith, h x, is_self x)), all_differ xs (λ n. omega (arith, h n)))
