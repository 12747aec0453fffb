-- Parts and budgets, step by step.
use Rattle.std.proofs.Common.{◌≡◌, ℕ, zero, suc, ◌+◌, ◌-◌, ◌*◌, ◌<◌, ◌≤◌, List, [], ◌∷◌, ◌++◌, set, refl, subst, arith}
use mathlib.Core.Logic.{dite}
use native.Mathlib.Decide.{ℕ_discrete}
use mathlib.Core.Option.{some}
use lib.ListN.{get_elem?}
use Rattle.list_words.proofs.TotalLemmas.{total-append}
use Rattle.turn_table.specs.Views.{nobody}
use Rattle.turn_table.specs.Turning.{HasShare, SharesOk}
use Rattle.turn_table.specs.declared.view.TurnView.{TurnView}
use Rattle.list_words.proofs.PlaceLemmas.{total-set}
use Rattle.turn_table.proofs.Sums.{total-within}
use Rattle.turn_table.proofs.ViewLists.{at_each, at_each_snoc, at_each_two}

-- what a pass and those that it joined drew is within its parts' budget
pub share_within : (c p s d t : ℕ) → HasShare c p s d t → t ≤ p * 281474976710656
share_within zero p s d t h = dite (ℕ_discrete p 0) (λ e. omega (arith, h.spent e)) (λ ne. let a = h.own in let b = h.few in let f = h.budget (omega arith) in omega arith)
share_within (suc c) p s d t h = dite (ℕ_discrete p 0) (λ e. omega (arith, h.spent e)) (λ ne. let a = h.own in let b = h.sole (λ z. absurd (omega arith)) in let f = h.budget (omega arith) in omega arith)

-- a pass that draws
pub share_draw : (c p s d t : ℕ) → d < 281474976710656 → 0 < p → HasShare c p s d t → HasShare c p s (d + 1) (t + 1)
share_draw c p s d t low some-part h = record { own = omega arith; few = h.few; sole = h.sole; covers = h.covers; budget = λ z. omega (arith, h.budget z); spent = λ z. absurd (omega arith) }

-- the first pass has three parts or more while it may split
pub share_many : (c p s d t : ℕ) → c ≡ 0 → s < 16382 → 0 < p → HasShare c p s d t → 2 < p
share_many zero p s d t first few some-part h = omega (arith, h.covers some-part)
share_many (suc c) p s d t first few some-part h = absurd (omega arith)

-- a pass that gives a part away
pub share_cut : (c p s d t : ℕ) → c ≡ 0 → s < 16382 → 0 < p → HasShare c p s d t → HasShare c (p - 1) (s + 1) d t
share_cut c p s d t first few some-part h = let many = share_many c p s d t first few some-part h in
    record { own = h.own; few = omega arith; sole = λ z. absurd (z first); covers = λ z. omega (arith, h.covers some-part); budget = λ z. omega (arith, h.budget some-part); spent = λ z. absurd (omega arith) }

-- a pass that was split off
share_new_of : (c : ℕ) → HasShare (suc c) 1 0 0 0
share_new_of c = record { own = omega arith; few = omega arith; sole = λ z. refl; covers = λ z. omega arith; budget = λ z. omega arith; spent = λ z. refl }

-- as the next caller
pub share_new : (s : ℕ) → HasShare (s + 1) 1 0 0 0
share_new s = let e : suc s ≡ s + 1 = omega arith in subst (λ c. HasShare c 1 0 0 0) e (share_new_of s)

-- one with no part
pub share_none : HasShare 0 0 0 0 0
share_none = record { own = omega arith; few = omega arith; sole = λ z. refl; covers = λ z. absurd (omega arith); budget = λ z. absurd (omega arith); spent = λ z. refl }

-- the first pass
pub share_first : HasShare 0 16384 0 0 0
share_first = record { own = omega arith; few = omega arith; sole = λ z. refl; covers = λ z. omega arith; budget = λ z. omega arith; spent = λ z. refl }

-- a pass that takes the parts of another
pub share_join : (c p s d t p' t' : ℕ) → 0 < p → t' ≤ p' * 281474976710656 → HasShare c p s d t → HasShare c (p + p') s d (t + t')
share_join c p s d t p' t' some-part within h = record { own = h.own; few = h.few; sole = h.sole; covers = λ z. omega (arith, h.covers some-part); budget = λ z. omega (arith, h.budget some-part); spent = λ z. absurd (omega arith) }

module _ {E H : Type 0} where
  -- a step of one pass, which keeps its parts
  pub shares_set : (n m : ℕ) (vs : List (TurnView E H)) (id : ℕ) (v w : TurnView E H) → get_elem? vs id ≡ some v → w.parts ≡ v.parts → w.tickets + n ≡ v.tickets + m → HasShare w.caller w.parts w.splits w.draws w.tickets
      → SharesOk n vs → SharesOk m (set vs id w)
  shares_set n m vs id v w me same more h o = record {
    parts = omega (arith, total-set (λ (u : TurnView E H). u.parts) vs id v w me, o.parts);
    tickets = omega (arith, total-set (λ (u : TurnView E H). u.tickets) vs id v w me, o.tickets);
    each = at_each vs id w (λ _ (u : TurnView E H). HasShare u.caller u.parts u.splits u.draws u.tickets) h (λ k u _ e. o.each k u e);
  }

  -- another view comes, with parts of the first
  pub shares_snoc : (n : ℕ) (vs : List (TurnView E H)) (id : ℕ) (v w x : TurnView E H) → get_elem? vs id ≡ some v → w.parts + x.parts ≡ v.parts → w.tickets ≡ v.tickets → x.tickets ≡ 0
      → HasShare w.caller w.parts w.splits w.draws w.tickets → HasShare x.caller x.parts x.splits x.draws x.tickets → SharesOk n vs → SharesOk n (set vs id w ++ x ∷ [])
  shares_snoc n vs id v w x me halves same none-drawn h g o = record {
    parts = omega (arith, total-append (λ (u : TurnView E H). u.parts) (set vs id w) (x ∷ []), total-set (λ (u : TurnView E H). u.parts) vs id v w me, o.parts);
    tickets = omega (arith, total-append (λ (u : TurnView E H). u.tickets) (set vs id w) (x ∷ []), total-set (λ (u : TurnView E H). u.tickets) vs id v w me, o.tickets);
    each = at_each_snoc vs id w x (λ (u : TurnView E H). HasShare u.caller u.parts u.splits u.draws u.tickets) h g o.each;
  }

  -- one view takes the parts of another, which is spent
  pub shares_two : (n : ℕ) (vs : List (TurnView E H)) (id other : ℕ) (v w b : TurnView E H) → get_elem? vs id ≡ some v → get_elem? (set vs id b) other ≡ some w → b.parts ≡ v.parts + w.parts → b.tickets ≡ v.tickets + w.tickets
      → HasShare b.caller b.parts b.splits b.draws b.tickets → SharesOk n vs → SharesOk n (set (set vs id b) other nobody)
  shares_two n vs id other v w b me there parts tickets h o = record {
    parts = omega (arith, total-set (λ (u : TurnView E H). u.parts) (set vs id b) other w nobody there, total-set (λ (u : TurnView E H). u.parts) vs id v b me, o.parts);
    tickets = omega (arith, total-set (λ (u : TurnView E H). u.tickets) (set vs id b) other w nobody there, total-set (λ (u : TurnView E H). u.tickets) vs id v b me, o.tickets);
    each = at_each_two vs id other b nobody (λ (u : TurnView E H). HasShare u.caller u.parts u.splits u.draws u.tickets) h share_none o.each;
  }

  -- the count stays far below the end of a word
  pub shares_few : (n : ℕ) (vs : List (TurnView E H)) → SharesOk n vs → n ≤ 4611686018427387904
  shares_few n vs o = omega (arith, o.parts, o.tickets, total-within (λ (u : TurnView E H). u.tickets) (λ (u : TurnView E H). u.parts) vs (λ k u e. share_within u.caller u.parts u.splits u.draws u.tickets (o.each k u e)))
