-- Two ports behind `range`.
use Rattle.std.proofs.Common.{◌≡◌, ℕ, ◌+◌, ◌-◌, ◌%◌, ◌<◌, ◌≤◌, List, [], ◌∷◌, codes, decimal, ap, refl, arith}
use Rattle.flat_list.specs.Ports.{none_reserved}
use Rattle.sock_script.specs.declared.line.Line.TheVariants as lines
use Rattle.refusals.specs.Ports.{AreTwo, IsForm}

-- two words, by the numbers that they spell
pub two : (a b : List ℕ) (low high : ℕ) → a ≡ decimal low → b ≡ decimal high → AreTwo (a ∷ b ∷ []) low high
two a b low high p q = cc

-- two ports that ascend, at an odd distance, are a range
pub odd_form : (a b : List ℕ) (low high : ℕ) → AreTwo (a ∷ b ∷ []) low high → 1 ≤ low → low < high → high ≤ 65535 → (high - low) % 2 ≡ 1
    → IsForm (codes "range" ∷ a ∷ b ∷ [])
odd_form a b low high words least order most odd = (
  lines.Range (record { low = low; high = high; reserved = none_reserved }),
  (
    ap (λ (ws : List (List ℕ)). codes "range" ∷ ws) words,
    record { low = least; order = order; high = omega (arith, most); even = omega (arith, odd, order); reserved = refl },
  ),
)
