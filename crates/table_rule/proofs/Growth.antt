-- How lives go on, and which have only begun.
use Rattle.std.proofs.Common.{◌≡◌, ℕ, ◌≤◌, List, [], ◌⊎◌, slice_set}
use mathlib.Core.Option.{some}
use lib.ListN.{get_elem?}
use Rattle.table_rule.specs.Book.{open-end, Life}
use Rattle.table_rule.proofs.LifeSteps.{with_lives}

-- x becomes y: what was open ends at the clock or later
pub record Grows (clock : ℕ) (x y : Life) : Type 0 where
  pub bucket : y.bucket ≡ x.bucket
  pub begun : y.begun ≡ x.begun
  pub card : (y.card ≡ x.card) ⊎ (x.card ≡ [])
  pub linked : (y.linked ≡ x.linked) ⊎ ((x.linked ≡ open-end) × (clock ≤ y.linked))
  pub leaving : (y.leaving ≡ x.leaving) ⊎ ((x.leaving ≡ open-end) × (clock ≤ y.leaving))
  pub left : (y.left ≡ x.left) ⊎ ((x.left ≡ open-end) × (clock ≤ y.left))

-- it has only begun
abbrev pub IsNew : Life → Type 0
IsNew y = (y.card ≡ []) × (y.linked ≡ open-end) × (y.leaving ≡ open-end) × (y.left ≡ open-end)

pub record Goes (clock : ℕ) (lives lives' : ℕ → List Life) : Type 0 where
  pub on : (i n : ℕ) (x : Life) → get_elem? (lives i) n ≡ some x → (y : Life) × (get_elem? (lives' i) n ≡ some y)
      × Grows clock x y
  pub back : (i n : ℕ) (y : Life) → get_elem? (lives' i) n ≡ some y
      → ((x : Life) × (get_elem? (lives i) n ≡ some x) × Grows clock x y) ⊎ IsNew y

-- one life grows
pub record OneGrows (clock : ℕ) (lives lives' : ℕ → List Life) : Type 0 where
  pub slot : ℕ
  pub nth : ℕ
  pub was : Life
  pub now : Life
  pub there : get_elem? (lives slot) nth ≡ some was
  pub grows : Grows clock was now
  pub card : now.card ≡ was.card
  pub is : lives' ≡ with_lives lives slot (slice_set (lives slot) nth now)
