-- A race has one finding.
use Rattle.std.proofs.Common.{◌≡◌, ℕ, zero, suc, ◌+◌, ◌<◌, ◌≤◌, ◌==◌, cond, List, [], ◌∷◌, take, refl, sym, ap, ◌∙◌, subst, arith}
use Rattle.list_words.specs.Lists.{Each, Pairs}
use Rattle.book_audit.specs.declared.printed.PrintedLife.{PrintedLife}
use Rattle.book_audit.specs.declared.printed.Printed.{Printed}
use Rattle.book_audit.specs.declared.printed.Why.{Why}
use Rattle.book_audit.specs.declared.printed.Why.TheVariants as whys
use Rattle.book_audit.specs.declared.printed.Finding.TheVariants as findings
use Rattle.book_audit.specs.Lines.{NoTwo, AreStamped, AreHoused, overlap, share_slot, are_twins}
use Rattle.book_audit.specs.Looks.{IsLineExplained}
use Rattle.book_audit.specs.Findings.{Passes, FailsAt, Fails, order, PassesBefore, IsFinding}
use Rattle.book_audit.specs.Laws.{OneFinding}

module _ {A : Type 0} where
  each_take : (P : A → Type 0) (k : ℕ) (xs : List A) → Each P xs → Each P (take k xs)
  each_take P zero xs e = tt
  each_take P (suc k) [] e = tt
  each_take P (suc k) (x ∷ xs) e = (e.0, each_take P k xs e.1)

  pairs_take : (R : A → A → Type 0) (k : ℕ) (xs : List A) → Pairs R xs → Pairs R (take k xs)
  pairs_take R zero xs e = tt
  pairs_take R (suc k) [] e = tt
  pairs_take R (suc k) (x ∷ xs) e = (each_take (R x) k xs e.0, pairs_take R k xs e.1)

  take_of_take : (k n : ℕ) (xs : List A) → k ≤ n → take k (take n xs) ≡ take k xs
  take_of_take zero n xs l = refl
  take_of_take (suc k) zero xs l = absurd (omega (arith, l))
  take_of_take (suc k) (suc n) [] l = refl
  take_of_take (suc k) (suc n) (x ∷ xs) l = ap (λ ys. x ∷ ys) (take_of_take k n xs (omega (arith, l)))

  -- what passes a test passes it without its last lines
  abbrev Closed : (List A → Type 0) → Type 0
  Closed Test = (k : ℕ) (xs : List A) → Test xs → Test (take k xs)

  module _ (Test : List A → Type 0) (closed : Closed Test) (xs : List A) where
    not_both : (at : ℕ) → Test xs → FailsAt Test xs at → ⊥
    not_both at t f = f.fails (closed (at + 1) xs t)

    not_earlier : (a b : ℕ) → FailsAt Test xs a → FailsAt Test xs b → a < b → ⊥
    not_earlier a b f g l =
        f.fails (subst (λ ys. Test ys) (take_of_take (a + 1) b xs (omega arith)) (closed (a + 1) (take b xs) g.before))

    one_place : (a b : ℕ) → FailsAt Test xs a → FailsAt Test xs b → a ≡ b
    one_place a b f g = omega (arith, not_earlier a b f g, not_earlier b a g f)

stamped_take : (clock : ℕ) → (k : ℕ) (xs : List PrintedLife) → AreStamped clock xs → AreStamped clock (take k xs)
stamped_take clock k xs s = record { ascend = each_take _ k xs s.ascend; differ = pairs_take _ k xs s.differ }

conflict : (p : Printed) (w : Why) (at : ℕ) → Passes p w → Fails p w at → ⊥
conflict p whys.Stamp at = not_both (AreStamped p.clock) (stamped_take p.clock) p.lives.items at
conflict p whys.Home at = not_both (AreHoused p.shape p.seed) (each_take _) p.lives.items at
conflict p whys.Overlap at = not_both (NoTwo overlap) (pairs_take _) p.lives.items at
conflict p whys.Slot at = not_both (NoTwo share_slot) (pairs_take _) p.lives.items at
conflict p whys.Twin at = not_both (NoTwo are_twins) (pairs_take _) p.lives.items at
conflict p whys.Receipt at =
    not_both (Each (IsLineExplained p.shape p.seed p.lives.items)) (each_take _) p.packets.items at
conflict p whys.Count at = λ c f. f.1 c

same_place : (p : Printed) (w : Why) (a b : ℕ) → Fails p w a → Fails p w b → a ≡ b
same_place p whys.Stamp = one_place (AreStamped p.clock) (stamped_take p.clock) p.lives.items
same_place p whys.Home = one_place (AreHoused p.shape p.seed) (each_take _) p.lives.items
same_place p whys.Overlap = one_place (NoTwo overlap) (pairs_take _) p.lives.items
same_place p whys.Slot = one_place (NoTwo share_slot) (pairs_take _) p.lives.items
same_place p whys.Twin = one_place (NoTwo are_twins) (pairs_take _) p.lives.items
same_place p whys.Receipt =
    one_place (Each (IsLineExplained p.shape p.seed p.lives.items)) (each_take _) p.packets.items
same_place p whys.Count = λ a b f g. f.0 ∙ sym g.0

-- the test at a place of the order
why_at : ℕ → Why
why_at n =
    cond (n == 0) whys.Stamp (cond (n == 1) whys.Home (cond (n == 2) whys.Overlap (cond (n == 3) whys.Slot (cond (n == 4) whys.Twin (cond (n == 5) whys.Receipt whys.Count)))))

in_place : (w : Why) → why_at (order w) ≡ w
unfolding why_at
in_place whys.Stamp = refl
in_place whys.Home = refl
in_place whys.Overlap = refl
in_place whys.Slot = refl
in_place whys.Twin = refl
in_place whys.Receipt = refl
in_place whys.Count = refl

pub one_order : (v w : Why) → order v ≡ order w → v ≡ w
one_order v w e = sym (in_place v) ∙ ap why_at e ∙ in_place w

no_wrong : (p : Printed) (w v : Why) (a b : ℕ) → PassesBefore p v → Fails p w a → order w < order v → ⊥
no_wrong p w v a b before f l = conflict p w a (before w l) f

wrongs : (p : Printed) (w v : Why) (a b : ℕ) → IsFinding p (findings.Wrong w a) → IsFinding p (findings.Wrong v b) → w ≡ v → findings.Wrong w a ≡ findings.Wrong v b
wrongs p w v a b f g e =
    ap (λ n. findings.Wrong w n) (same_place p w a b f.1 (subst (λ x. Fails p x b) (sym e) g.1))
    ∙ ap (λ x. findings.Wrong x b) e

pub one_finding : OneFinding
one_finding p findings.Sound findings.Sound f g = refl
one_finding p findings.Sound (findings.Wrong w a) f g = absurd (conflict p w a (f w) g.1)
one_finding p (findings.Wrong w a) findings.Sound f g = absurd (conflict p w a (g w) f.1)
one_finding p (findings.Wrong w a) (findings.Wrong v b) f g = wrongs p w v a b f g
    (one_order w v (omega (arith, no_wrong p w v a b g.0 f.1, no_wrong p v w b a f.0 g.1)))
