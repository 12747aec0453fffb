-- The numbers of the clock's lines are within the clock.
use Rattle.std.proofs.Common.{◌≡◌, ℕ, ◌+◌, ◌*◌, ◌/◌, ◌^◌, ◌<◌, ◌≤◌, arith, sym, subst}
use Rattle.std.proofs.Math.Nat.{mul-le-mul_left}

within : (clock k unit : ℕ) → 0 < unit → k ≤ clock / unit → k * unit ≤ clock
within clock k unit some low = omega (arith, mul-le-mul_left unit low)

pub tick_within : (clock k unit : ℕ) → unit ≡ clock / 20 + 1 → k ≤ clock / (clock / 20 + 1) → k * unit ≤ clock
tick_within clock k unit e low =
    let P : ℕ → Type 0 = λ u. k * u ≤ clock in subst P (sym e) (within clock k (clock / 20 + 1) (omega arith) low)
