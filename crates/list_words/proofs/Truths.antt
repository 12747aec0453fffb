-- Truth values, and what is there: that one follows from others.
use Rattle.std.proofs.Common.{◌≡◌, ℕ, ◌≤◌, Bool, true, false, ◌&&◌, cond, Some, None, Option, refl, sym, arith}
use Rattle.std.specs.Prelude.{is_some}
use Rattle.std.proofs.lemmas.Bool.{both_ways}

-- two that follow from each other are one
pub same_truth : (a b : Bool) → (a ≡ true → b ≡ true) → (b ≡ true → a ≡ true) → a ≡ b
same_truth true b f g = sym (f refl)
same_truth false true f g = g refl
same_truth false false f g = refl

pub false_if : (a b : Bool) → (a ≡ true → b ≡ true) → b ≡ false → a ≡ false
false_if true b h e = absurd (both_ways b e (h refl))
false_if false b h e = refl

pub both_true : (a b : Bool) → a ≡ true → b ≡ true → (a && b) ≡ true
both_true a b e f = rw (e, f) refl

-- one, where it is 1 for true and 0 for false
pub one_is_true : (b : Bool) (n : ℕ) → n ≡ cond {A = ℕ} b 1 0 → 1 ≤ n → b ≡ true
one_is_true true n h some = refl
one_is_true false n h some = absurd (omega (arith, h, some))

-- what is there
pub some_of : {A : Type 0} (o : Option A) → is_some o ≡ true → (x : A) × (o ≡ Some x)
some_of None h = absurd (cc)
some_of (Some x) h = (x, refl)
