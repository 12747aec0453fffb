-- A power of two has one bit.
use Rattle.std.proofs.Common.{◌≡◌, ℕ, zero, suc, ◌+◌, ◌-◌, ◌*◌, ◌/◌, ◌%◌, ◌^◌, ◌<◌, ◌≤◌, count_ones, IsTrue, bit_and, arith, refl, ap, sym, subst, ◌∙◌, ◌⊎◌, inl, inr}
use Rattle.std.proofs.lemmas.Nat.{and_mask, ones_cat, ones_le_self, zero_from_ones, pow_pos}
use Rattle.std.proofs.lemmas.Bool.{eqb-true, eq-eqb}
use Rattle.std.proofs.Math.Nat.{pow-suc}
use Rattle.std.specs.Int.{IsPowerOfTwo, is_power_of_two}
use Rattle.std.specs.Int.Count.{ones}

-- the last bit and those above it
ones-halved : (n : ℕ) → count_ones n ≡ count_ones (n / 2) + count_ones (n % 2)
ones-halved n =
    let whole : n ≡ n / 2 * 2 ^ 1 + n % 2 = omega arith in
    ap count_ones whole ∙ ones_cat 1 (n / 2) (n % 2) (omega arith)

-- the two bits
ones-one : count_ones 1 ≡ 1
unfolding ones
ones-one = refl

ones-zero : count_ones 0 ≡ 0
unfolding ones
ones-zero = refl

-- a bit is either
zero_or_one : (n : ℕ) → n < 2 → (n ≡ 0) ⊎ (n ≡ 1)
zero_or_one zero h = inl refl
zero_or_one (suc n) h = inr (omega arith)

-- a number of one bit is a power of two
power_from_ones : (d n : ℕ) → n ≤ d → count_ones n ≡ 1 → IsPowerOfTwo n
power_from_ones zero n h one =
    absurd (omega (arith, ones_le_self n))
power_from_ones (suc d) n h one =
    elim (zero_or_one (n % 2) (omega arith)) [
      | inl even ↦
          let rest : count_ones (n / 2) ≡ 1 = omega (arith, ones-halved n, ap count_ones even, ones-zero) in
          let half = power_from_ones d (n / 2) (omega (arith, ones_le_self n)) rest in
          (suc half.0, omega (arith, half.1, pow-suc 2 half.0))
      | inr odd ↦
          let rest : count_ones (n / 2) ≡ 0 = omega (arith, ones-halved n, ap count_ones odd, ones-one) in
          let none = zero_from_ones (n / 2) rest in
          (0, omega (arith, none))
    ]

-- a power of two has one bit
ones-power : (k : ℕ) → count_ones (2 ^ k) ≡ 1
ones-power k =
    let whole : 2 ^ k ≡ 1 * 2 ^ k + 0 = omega arith in
    omega (arith, ap count_ones whole, ones_cat k 1 0 (pow_pos k), ones-one, ones-zero)

-- what the test says of a number
pub power-from_test : (n : ℕ) → IsTrue (is_power_of_two n) → IsPowerOfTwo n
power-from_test n h = power_from_ones n n (omega arith) (eqb-true _ _ h)

-- and what it says of a power of two
pub test-from_power : (n : ℕ) → IsPowerOfTwo n → IsTrue (is_power_of_two n)
test-from_power n h = eq-eqb _ _ (ap count_ones h.1 ∙ ones-power h.0)

-- it isn't 0
pub power_positive : (n : ℕ) → IsPowerOfTwo n → 1 ≤ n
power_positive n h = omega (arith, h.1, pow_pos h.0)

-- the rest of a division by it is the lowest bits
pub rest-from_test : (h n : ℕ) → IsTrue (is_power_of_two n) → bit_and h (n - 1) ≡ h % n
rest-from_test h n t =
    let p = power-from_test n t in
    subst (λ (m : ℕ). bit_and h (m - 1) ≡ h % m) (sym p.1) (and_mask h p.0)
