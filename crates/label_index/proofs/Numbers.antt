-- Labels that are numbers, and where each stands among the first of them.
use Rattle.std.proofs.Common.{◌≡◌, ℕ, zero, suc, ◌+◌, ◌-◌, ◌<◌, ◌≤◌, ◌^◌, ◌==◌, Bool, true, false, List, [], ◌∷◌, ◌++◌, length, Option, Some, None, cond, refl, sym, ap, ◌∙◌, subst, arith}
use mathlib.Core.Logic.{dite}
use native.Mathlib.Decide.{ℕ_discrete}
use Rattle.std.specs.Int.{w64, from_be_bytes}
use Rattle.std.specs.Str.{bytes_eq}
use Rattle.std.proofs.lemmas.Bool.{eqb-true, false_from_ne_true}
use Rattle.std.proofs.lemmas.Nat.{from_be_bytes-to_be_bytes_8}
use Rattle.std.proofs.lemmas.Slice.Eq.{bytes_eq-Decides}
use Rattle.list_words.proofs.Positions.{pushed_new, pushed_other, pushed_again}
use Rattle.flat_calls.specs.Numbers.{label_of, number_of}
use Rattle.label_index.specs.Numbers.{labels_to}
use Rattle.label_index.specs.Places.{place_in}

-- a number's label has eight bytes, of which it is the number
pub number_back : (m : ℕ) → m < 2 ^ 64 → number_of (label_of m) ≡ m
number_back m l = from_be_bytes-to_be_bytes_8 m l

eight_by : (eight : Bool) (n : ℕ) → (cond eight n 0 ≡ 0 → ⊥) → eight ≡ true
eight_by true n some = refl
eight_by false n some = absurd (some refl)

-- what has a number, but 0, has eight bytes
pub eight_bytes : (label : List ℕ) → (number_of label ≡ 0 → ⊥) → length label ≡ 8
eight_bytes label some = eqb-true (length label) 8 (eight_by (length label == 8) (from_be_bytes w64 label) some)

pub length_push : (xs : List (List ℕ)) (x : List ℕ) → length (xs ++ x ∷ []) ≡ suc (length xs)
length_push [] x = refl
length_push (y ∷ ys) x = ap suc (length_push ys x)

pub length_labels : (n : ℕ) → length (labels_to n) ≡ n
length_labels zero = refl
length_labels (suc n) = length_push (labels_to n) (label_of (suc n)) ∙ ap suc (length_labels n)

-- another number's label is another
another : (text : List ℕ) (m : ℕ) → m < 2 ^ 64 → (number_of text ≡ m → ⊥) → bytes_eq (label_of m) text ≡ false
another text m few ne =
    false_from_ne_true (bytes_eq (label_of m) text)
    (λ e. ne (ap number_of (sym ((bytes_eq-Decides (label_of m) text).0 e)) ∙ number_back m few))

-- a text whose number isn't among the first n stands nowhere among them
pub no_place : (n : ℕ) (text : List ℕ) → n < 2 ^ 64 → (1 ≤ number_of text → number_of text ≤ n → ⊥) → place_in (labels_to n) text ≡ None
no_place zero text few out = refl
no_place (suc n) text few out =
    pushed_other (λ l. bytes_eq l text) (labels_to n) (label_of (suc n)) (another text (suc n) few (λ e. out (omega (arith, e)) (omega (arith, e))))
    ∙ no_place n text (omega (arith, few)) (λ a b. out a (omega (arith, b)))

-- and the label of one among them stands at its number, counted from 1
pub place : (n k : ℕ) → n < 2 ^ 64 → 1 ≤ k → k ≤ n → place_in (labels_to n) (label_of k) ≡ Some (k - 1)
place zero k few some l = absurd (omega (arith, some, l))
place (suc n) k few some l =
    let back : number_of (label_of k) ≡ k = number_back k (omega (arith, few, l)) in
    dite (ℕ_discrete k (suc n))
    (λ e. pushed_new (λ x. bytes_eq x (label_of k)) (labels_to n) (label_of (suc n)) (no_place n (label_of k) (omega (arith, few)) (λ a b. omega (arith, b, back, e)))
    ((bytes_eq-Decides (label_of (suc n)) (label_of k)).1 (ap label_of (sym e)))
    ∙ ap Some (let z : length (labels_to n) ≡ k - 1 = let len = length_labels n in omega (arith, len, e) in z))
    (λ ne. let there = place n k (omega (arith, few)) some (omega (arith, l, ne)) in
    pushed_again (λ x. bytes_eq x (label_of k)) (labels_to n) (label_of (suc n)) (k - 1) there ∙ there)
