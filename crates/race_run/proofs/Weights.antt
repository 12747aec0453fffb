-- Lists that are made of parts, and what their items weigh.
use Rattle.std.proofs.Common.{◌≢◌, reverse, ◌≡◌, ℕ, zero, suc, ◌+◌, ◌<◌, ◌≤◌, ◌==◌, Bool, true, false, cond, List, [], ◌∷◌, ◌++◌, map, refl, sym, ap, ◌∙◌, subst, arith, inl, inr}
use Rattle.std.specs.List.{flat_map, range_with_len}
use Rattle.std.proofs.lemmas.Bool.{eqb-true}
use Rattle.std.proofs.lemmas.List.{append-nil, map-append, reverse-append}
use Rattle.std.proofs.lemmas.Grind.{flat_map-append}
use Rattle.list_words.specs.Lists.{Each, Pairs, total, SameItems}
use Rattle.list_words.proofs.EachLemmas.{each_push, each_weaken}
use Rattle.list_words.proofs.TotalLemmas.{total-append}
use Rattle.turn_table.specs.Journals.{numbers_below}
use Rattle.race_book.specs.Among.{Among}
use Rattle.race_book.proofs.AmongLemmas.{among_left, among_right}
use Rattle.race_book.proofs.Endings.{each_of, to_each}
use Rattle.race_record.proofs.Weights.{total_flat, is, is_self, all_differ, once}

pub flat_push : {X A : Type 0} (f : X → List A) (xs : List X) (x : X) → flat_map f (xs ++ x ∷ []) ≡ flat_map f xs ++ f x
flat_push f xs x = flat_map-append f xs (x ∷ []) ∙ ap (λ l. flat_map f xs ++ l) (append-nil (f x))

pub total_push : {A : Type 0} (f : A → ℕ) (xs : List A) (x : A) → total f (xs ++ x ∷ []) ≡ total f xs + f x
total_push f xs x = omega (arith, total-append f xs (x ∷ []))

pub map_flat : {X A B : Type 0} (f : A → B) (g : X → List A) (xs : List X) → map f (flat_map g xs) ≡ flat_map (λ x. map f (g x)) xs
map_flat f g [] = refl
map_flat f g (x ∷ xs) = map-append f (g x) (flat_map g xs) ∙ ap (λ l. map f (g x) ++ l) (map_flat f g xs)

pub among_flat : {X A : Type 0} (g : X → List A) (xs : List X) (x : X) (a : A) → Among xs x → Among (g x) a → Among (flat_map g xs) a
among_flat g [] x a h k = absurd h
among_flat g (y ∷ ys) x a (inl e) k = among_left a (g y) (flat_map g ys) (subst (λ z. Among (g z) a) e k)
among_flat g (y ∷ ys) x a (inr b) k = among_right a (g y) (flat_map g ys) (among_flat g ys x a b k)

weighs : (n : ℕ) (xs : List ℕ) → Among xs n → 1 ≤ total (is n) xs
weighs n [] a = absurd a
weighs n (x ∷ xs) (inl e) = omega (arith, is_self n, ap (is n) (sym e))
weighs n (x ∷ xs) (inr a) = omega (arith, weighs n xs a)

there_by : (n x : ℕ) (xs : List ℕ) (b : Bool) → (x == n) ≡ b → 1 ≤ cond b 1 0 + total (is n) xs → (1 ≤ total (is n) xs → Among xs n) → Among (x ∷ xs) n
there_by n x xs true e h rest = inl (sym (eqb-true x n e))
there_by n x xs false e h rest = inr (rest (omega (arith, h)))

there : (n : ℕ) (xs : List ℕ) → 1 ≤ total (is n) xs → Among xs n
there n [] h = absurd (omega (arith, h))
there n (x ∷ xs) h = there_by n x xs (x == n) refl h (there n xs)

pub same_among : (xs ys : List ℕ) → SameItems xs ys → (n : ℕ) → Among xs n → Among ys n
same_among xs ys s n a = there n ys (omega (arith, weighs n xs a, s (is n)))

pub same_each : (P : ℕ → Type 0) (xs ys : List ℕ) → SameItems xs ys → Each P ys → Each P xs
same_each P xs ys s h = to_each P xs (λ n a. each_of P ys h n (same_among xs ys s n a))

pub flipped : {A : Type 0} (xs ys : List A) → SameItems xs ys → SameItems ys xs
flipped xs ys s f = sym (s f)

pub in_range : (a n : ℕ) → Each (λ m. (a ≤ m) × (m < a + n)) (range_with_len a n)
in_range a zero = tt
in_range a (suc n) = ((omega arith, omega arith), Rattle.list_words.proofs.EachLemmas.each_weaken (λ m. (a + 1 ≤ m) × (m < a + 1 + n)) (λ m. (a ≤ m) × (m < a + suc n)) (range_with_len (a + 1) n) (λ m z. (omega (arith, z.0), omega (arith, z.1))) (in_range (a + 1) n))

pub weigh_map : {A B : Type 0} (f : B → ℕ) (g : A → B) (xs : List A) → total f (map g xs) ≡ total (λ x. f (g x)) xs
weigh_map f g [] = refl
weigh_map f g (x ∷ xs) = ap (λ n. f (g x) + n) (weigh_map f g xs)

-- a list weighs what it weighs backwards
pub flat_back_weighs : {X A : Type 0} (f : A → ℕ) (g : X → List A) (xs : List X) → total f (flat_map g (reverse xs)) ≡ total f (flat_map g xs)
flat_back_weighs f g xs = total_flat f g (reverse xs) ∙ back_weighs (λ x. total f (g x)) xs ∙ sym (total_flat f g xs)
  where
    back_weighs : {X : Type 0} (h : X → ℕ) (xs : List X) → total h (reverse xs) ≡ total h xs
    back_weighs h [] = refl
    back_weighs h (x ∷ xs) = ap (total h) (reverse-append (x ∷ []) xs) ∙ omega (arith, total_push h (reverse xs) x, back_weighs h xs)

-- numbers that are those below a bound, each once

pub below_apart : (xs : List ℕ) (n : ℕ) → SameItems xs (numbers_below n) → Pairs (λ (i j : ℕ). i ≢ j) xs
below_apart xs n s = all_differ xs (λ k. omega (arith, s (is k), once k n))

below_each : (n : ℕ) → Each (λ k. k < n) (numbers_below n)
below_each zero = tt
below_each (suc n) = each_push (λ k. k < suc n) (numbers_below n) n (each_weaken (λ k. k < n) (λ k. k < suc n) (numbers_below n) (λ k l. omega (arith, l)) (below_each n)) (omega arith)

pub below_inside : (xs : List ℕ) (n : ℕ) → SameItems xs (numbers_below n) → Each (λ k. k < n) xs
below_inside xs n s = same_each (λ k. k < n) xs (numbers_below n) s (below_each n)
