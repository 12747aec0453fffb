-- Slots beside one that is left out.
use Rattle.std.proofs.Common.{◌≡◌, ℕ, ◌<◌, zero, suc, true, false, not, eqb, List, [], ◌∷◌, length, get_or, Option, Some, None, refl, ◌∙◌, ap, subst, sym, arith}
use Rattle.std.specs.Option.{option_eq}
use Rattle.std.proofs.lemmas.Bool.{eqb-true, eq-eqb, not-false, true≢false}
use Rattle.bind_buckets.specs.declared.slot.Slot.{Slot}
use Rattle.bind_buckets.specs.declared.slot.Asked.{Asked}
use Rattle.bind_buckets.specs.Slots.{left_at, beside, has}

pub left_length : (place : ℕ) (slots : List Slot) → length (left_at place slots) ≡ length slots
left_length place [] = refl
left_length zero (s ∷ rest) = refl
left_length (suc place) (s ∷ rest) = ap suc (left_length place rest)

left_elsewhere : (place j : ℕ) (slots : List Slot) (d : Slot) → (place ≡ j → ⊥) → get_or (left_at place slots) j d ≡ get_or slots j d
left_elsewhere place j [] d other = refl
left_elsewhere zero zero (s ∷ rest) d other = absurd (other refl)
left_elsewhere zero (suc j) (s ∷ rest) d other = refl
left_elsewhere (suc place) zero (s ∷ rest) d other = refl
left_elsewhere (suc place) (suc j) (s ∷ rest) d other = left_elsewhere place j rest d (λ e. other (ap suc e))

none_there : (asked : Asked) (place : ℕ) (slots : List Slot) (d : Slot) → place < length slots → has asked (get_or (left_at place slots) place d) ≡ false
none_there asked place [] d lt = absurd (omega arith)
none_there asked zero (s ∷ rest) d lt = refl
none_there asked (suc place) (s ∷ rest) d lt = none_there asked place rest d (omega arith)

pub beside_length : (but : Option ℕ) (slots : List Slot) → length (beside but slots) ≡ length slots
beside_length None slots = refl
beside_length (Some place) slots = left_length place slots

-- another slot is as it was
pub beside_elsewhere : (but : Option ℕ) (j : ℕ) (slots : List Slot) (d : Slot) → (but ≡ Some j → ⊥) → get_or (beside but slots) j d ≡ get_or slots j d
beside_elsewhere None j slots d other = refl
beside_elsewhere (Some place) j slots d other = left_elsewhere place j slots d (λ e. other (ap Some e))

-- nothing that is asked holds of the one that is left out
pub beside_there : (asked : Asked) (but : Option ℕ) (j : ℕ) (slots : List Slot) (d : Slot) → but ≡ Some j → j < length slots → has asked (get_or (beside but slots) j d) ≡ false
beside_there asked but j slots d e lt =
    subst (λ b. has asked (get_or (beside b slots) j d) ≡ false) (sym e) (none_there asked j slots d lt)

-- what a comparison of places says
pub is_other_place : (but : Option ℕ) (j : ℕ) → true ≡ not (option_eq eqb but (Some j)) → but ≡ Some j → ⊥
is_other_place but j e same =
    true≢false (e ∙ ap (λ o. not (option_eq eqb o (Some j))) same ∙ ap not (eq-eqb j j refl))

pub is_that_place : (but : Option ℕ) (j : ℕ) → false ≡ not (option_eq eqb but (Some j)) → but ≡ Some j
is_that_place None j e = absurd (true≢false (sym e))
is_that_place (Some place) j e = ap Some (eqb-true place j (not-false (eqb place j) (sym e)))
