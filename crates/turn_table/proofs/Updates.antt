-- Journals of which one grew, and what all their entries weigh.
use Rattle.std.proofs.Common.{◌≡◌, ℕ, zero, suc, ◌+◌, ◌<◌, ◌≤◌, ◌≢◌, eqb, cond, List, [], ◌++◌, refl, ap, ◌∙◌, subst, eq-eqb, ne_eqb, arith}
use mathlib.Core.Logic.{dite}
use native.Mathlib.Decide.{ℕ_discrete}
use Rattle.list_words.specs.Lists.{total}
use Rattle.list_words.proofs.TotalLemmas.{total-append}
use Rattle.turn_table.specs.Journals.{placed}
use Rattle.turn_table.specs.Turning.{entries}
use Rattle.turn_table.specs.declared.note.Note.{Note}
use Rattle.turn_table.specs.declared.note.Placed.{Placed}

module _ {E : Type 0} where
  -- the journals, with another one at a place
  abbrev pub upd : (ℕ → List (Note E)) → ℕ → List (Note E) → ℕ → List (Note E)
  upd js i l k = cond (eqb k i) l (js k)

  -- at that place it is the new one
  pub upd_here : (js : ℕ → List (Note E)) (i : ℕ) (l : List (Note E)) (k : ℕ) → k ≡ i → upd js i l k ≡ l
  upd_here js i l k e = ap (λ b. cond b l (js k)) (eq-eqb k i e)

  -- at other places it is as before
  pub upd_else : (js : ℕ → List (Note E)) (i : ℕ) (l : List (Note E)) (k : ℕ) → k ≢ i → upd js i l k ≡ js k
  upd_else js i l k n = ap (λ b. cond b l (js k)) (ne_eqb k i n)

  -- the weight of places below the one that grew
  entries_else : (f : Placed E → ℕ) (js : ℕ → List (Note E)) (i : ℕ) (l : List (Note E)) (n : ℕ) → n ≤ i → entries f (upd js i l) n ≡ entries f js n
  entries_else f js i l zero h = refl
  entries_else f js i l (suc n) h =
      omega (arith, entries_else f js i l n (omega arith), ap (λ (l : List (Note E)). total (λ (x : Note E). f (placed n x)) l) (upd_else js i l n (λ e. omega arith)))

  -- the weight of all grows by that of the new entries
  pub entries_upd : (f : Placed E → ℕ) (js : ℕ → List (Note E)) (i : ℕ) (l new : List (Note E)) (n : ℕ) → l ≡ js i ++ new → i < n → entries f (upd js i l) n ≡ entries f js n + total (λ (x : Note E). f (placed i x)) new
  entries_upd f js i l new zero e h = absurd (omega arith)
  entries_upd f js i l new (suc n) e h = dite (ℕ_discrete n i)
      (λ z. let here : total (λ (x : Note E). f (placed n x)) (upd js i l n) ≡ total (λ (x : Note E). f (placed n x)) (js n) + total (λ (x : Note E). f (placed i x)) new =
      ap (total (λ (x : Note E). f (placed n x))) (upd_here js i l n z ∙ e) ∙ (total-append (λ (x : Note E). f (placed n x)) (js i) new ∙ subst (λ (k : ℕ). total (λ (x : Note E). f (placed n x)) (js k) + total (λ (x : Note E). f (placed n x)) new ≡ total (λ (x : Note E). f (placed n x)) (js n) + total (λ (x : Note E). f (placed k x)) new) z refl) in
      omega (arith, entries_else f js i l n (omega arith)))
      (λ ne. omega (arith, entries_upd f js i l new n e (omega arith), ap (λ (l : List (Note E)). total (λ (x : Note E). f (placed n x)) l) (upd_else js i l n ne)))

  -- with empty journals there is nothing
  pub entries_none : (f : Placed E → ℕ) (n : ℕ) → entries f (λ (i : ℕ). []) n ≡ 0
  entries_none f zero = refl
  entries_none f (suc n) = omega (arith, entries_none f n)
