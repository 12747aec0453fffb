-- Turns and the values at home, step by step.
use Rattle.std.proofs.Common.{◌≡◌, ℕ, ◌+◌, ◌<◌, ◌≤◌, ◌≢◌, List, length, set, sym, refl, ap, ◌∙◌, subst, arith, Option, Some, length-set}
use mathlib.Core.Logic.{dite}
use native.Mathlib.Decide.{ℕ_discrete}
use mathlib.Core.Option.{Option as Maybe, none, some}
use lib.ListN.{get_elem?}
use Rattle.atomic_table.proofs.Lists.{set_here, set_else}
use Rattle.list_words.specs.Lists.{total}
use Rattle.turn_table.specs.Turning.{has_turn, Home, TurnsOk}
use Rattle.turn_table.specs.declared.note.Note.{Note}
use Rattle.turn_table.specs.declared.view.TurnView.{TurnView}
use Rattle.list_words.proofs.PlaceLemmas.{total-set, term_le}
use Rattle.turn_table.proofs.Updates.{upd, upd_here, upd_else}
use Rattle.turn_table.proofs.ViewLists.{turn_yes, turn_no}

module _ {V E H : Type 0} (notes : V → List (Note E)) (fits : ℕ → ℕ → V → Type 0) where
  -- a step that leaves each turn where it is
  pub turns_same : (hs : List (Maybe (Option V))) (js : ℕ → List (Note E)) (turn turn' : ℕ → ℕ) (vs vs' : List (TurnView E H)) → ((i : ℕ) → turn' i ≡ turn i) → ((i : ℕ) → total (has_turn i) vs' ≡ total (has_turn i) vs)
      → TurnsOk notes fits hs js turn vs → TurnsOk notes fits hs js turn' vs'
  turns_same hs js turn turn' vs vs' same sums o = record {
    locks = λ i h. let t = o.locks i h in (omega (arith, t.0, same i, sums i), omega (arith, t.1, same i));
    home = λ i h e. o.home i h (sym (same i) ∙ e);
  }

  -- one turn is taken
  pub turns_take : (hs : List (Maybe (Option V))) (js : ℕ → List (Note E)) (turn turn' : ℕ → ℕ) (vs : List (TurnView E H)) (id i : ℕ) (v w : TurnView E H) → get_elem? vs id ≡ some v → i < length hs → v.at ≡ 0 → w.at ≡ i + 1
      → turn i ≡ 0 → turn' i ≡ 1 → ((j : ℕ) → j ≢ i → turn' j ≡ turn j) → TurnsOk notes fits hs js turn vs → TurnsOk notes fits (set hs i none) js turn' (set vs id w)
  turns_take hs js turn turn' vs id i v w me near free at clear here other o =
      let long : length (set hs i none) ≡ length hs = length-set hs i none in
      record {
        locks = λ j l. dite (ℕ_discrete j i)
            (λ e. let t = o.locks i near in let yes : has_turn i w ≡ 1 = turn_yes i w at in let no : has_turn i v ≡ 0 = turn_no i v (λ z. omega arith) in
            subst (λ (k : ℕ). (total (has_turn k) (set vs id w) ≡ turn' k) × (turn' k ≤ 1)) (sym e) (omega (arith, total-set (has_turn i) vs id v w me, t.0), omega arith))
            (λ ne. let t = o.locks j (subst (λ (n : ℕ). j < n) long l) in let no : has_turn j w ≡ 0 = turn_no j w (λ z. ne (omega arith)) in let no' : has_turn j v ≡ 0 = turn_no j v (λ z. omega arith) in
            (omega (arith, total-set (has_turn j) vs id v w me, t.0, other j ne), omega (arith, t.1, other j ne)));
        home = λ j l e. dite (ℕ_discrete j i)
            (λ z. absurd (omega (arith, here, ap turn' z)))
            (λ ne. let t = o.home j (subst (λ (n : ℕ). j < n) long l) (sym (other j ne) ∙ e) in
            record { value = t.value; there = set_else hs i j none ne ∙ t.there; suits = subst (λ (n : ℕ). fits j n t.value) (sym long) t.suits; is = t.is });
      }

  -- one turn is given back, with a value
  pub turns_give : (hs : List (Maybe (Option V))) (js : ℕ → List (Note E)) (turn turn' : ℕ → ℕ) (vs : List (TurnView E H)) (id i : ℕ) (v w : TurnView E H) (value : V) → get_elem? vs id ≡ some v → i < length hs → v.at ≡ i + 1 → w.at ≡ 0
      → turn' i ≡ 0 → ((j : ℕ) → j ≢ i → turn' j ≡ turn j) → fits i (length hs) value → TurnsOk notes fits hs js turn vs → TurnsOk notes fits (set hs i (some (Some value))) (upd js i (notes value)) turn' (set vs id w)
  turns_give hs js turn turn' vs id i v w value me near at free here other suits o =
      let hs' : List (Maybe (Option V)) = set hs i (some (Some value)) in
      let l : List (Note E) = notes value in
      let long : length hs' ≡ length hs = length-set hs i (some (Some value)) in
      let yes : has_turn i v ≡ 1 = turn_yes i v at in
      let no : has_turn i w ≡ 0 = turn_no i w (λ z. omega arith) in
      let lock = o.locks i near in
      record {
        locks = λ j q. dite (ℕ_discrete j i)
            (λ e. subst (λ (k : ℕ). (total (has_turn k) (set vs id w) ≡ turn' k) × (turn' k ≤ 1)) (sym e)
            (omega (arith, total-set (has_turn i) vs id v w me, lock.0, lock.1, term_le (has_turn i) vs id v me), omega arith))
            (λ ne. let t = o.locks j (subst (λ (n : ℕ). j < n) long q) in let no' : has_turn j w ≡ 0 = turn_no j w (λ z. omega arith) in let no'' : has_turn j v ≡ 0 = turn_no j v (λ z. ne (omega arith)) in
            (omega (arith, total-set (has_turn j) vs id v w me, t.0, other j ne), omega (arith, t.1, other j ne)));
        home = λ j q e. dite (ℕ_discrete j i)
            (λ z. subst (λ (k : ℕ). Home notes fits hs' (upd js i l k) k) (sym z) record { value = value; there = set_here hs i (some (Some value)) near; suits = subst (λ (n : ℕ). fits i n value) (sym long) suits; is = sym (upd_here js i l i refl) })
            (λ ne. let t = o.home j (subst (λ (n : ℕ). j < n) long q) (sym (other j ne) ∙ e) in
            record { value = t.value; there = set_else hs i j (some (Some value)) ne ∙ t.there; suits = subst (λ (n : ℕ). fits j n t.value) (sym long) t.suits; is = t.is ∙ sym (upd_else js i l j ne) });
      }
