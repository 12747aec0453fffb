-- The fronts of lines that are in the grammar.
use Rattle.std.proofs.Common.{◌≡◌, ℕ, ◌-◌, ◌<◌, ◌≤◌, List, take, drop, sym, subst, arith}
use Rattle.std.proofs.lemmas.List.{take-append-drop}
use Rattle.std.proofs.lemmas.Grind.{common_steps}
use Rattle.sock_script.specs.declared.parse.Mode.{Mode}
use Rattle.sock_script.specs.Grammar.{IsInside, IsFirstOutside}
use Rattle.sock_script.specs.Reading.{Reads, nothing_yet}
use Rattle.sock_script.proofs.Scripts.{Reads-split}
use Rattle.sock_script.proofs.Inside.{read_inside, inside_by}

-- the front of a longer front
take_of_take : (texts : List (List ℕ)) (m n : ℕ) → m ≤ n → take m (take n texts) ≡ take m texts
take_of_take texts m n le = grind (arith, common_steps)

module _ (mode : Mode) where
  -- a front of lines inside is inside
  pub IsInside-take : (texts : List (List ℕ)) (n : ℕ) → IsInside mode texts → IsInside mode (take n texts)
  IsInside-take texts n h =
      let whole = read_inside mode texts h in
      let parts = Reads-split mode nothing_yet whole.0 (take n texts) (drop n texts) (subst (λ t. Reads mode nothing_yet t whole.0) (sym (take-append-drop n texts)) whole.1) in
      inside_by mode (take n texts) parts.0 parts.1

  pub none_outside : (texts : List (List ℕ)) (n : ℕ) → IsFirstOutside mode texts n → IsInside mode texts → ⊥
  none_outside texts n h inside = h.outside (IsInside-take texts n inside)

  not_before : (texts : List (List ℕ)) (m n : ℕ) → IsFirstOutside mode texts m → IsFirstOutside mode texts n → m < n → ⊥
  not_before texts m n h k lt =
      let front : take m (take (n - 1) texts) ≡ take m texts = take_of_take texts m (n - 1) (omega arith) in
      h.outside (subst (IsInside mode) front (IsInside-take (take (n - 1) texts) m k.before))

  pub one_first : (texts : List (List ℕ)) (m n : ℕ) → IsFirstOutside mode texts m → IsFirstOutside mode texts n → m ≡ n
  one_first texts m n h k =
      let no_less : m < n → ⊥ = not_before texts m n h k in
      let no_more : n < m → ⊥ = not_before texts n m k h in
      omega arith
