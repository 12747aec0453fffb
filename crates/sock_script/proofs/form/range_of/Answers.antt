use Rattle.std.proofs.Common.{◌≡◌, ◌∷◌, [], ◌∙◌, decimal, arith, sym}
use Rattle.std.proofs.lemmas.Bool.{false≢true}
use Rattle.std.proofs.lemmas.Fmt.{decimal_injective}
use Rattle.sock_script.specs.Seen.{texts}
use Rattle.sock_script.proofs.Words.{second_is, past_two, is_over}
use Rattle.sock_script.proofs.form.range_of.Goals as goal

pub returns-in_err-high-clause-none : goal.returns-in_err-high-clause-none
returns-in_err-high-clause-none c =
    rw c.from_residual-in_err-high.ensures (λ range h.
    let low = c.in_ok-low.ensures.some in
    c.in_err-high.ensures.none range.high [] (past_two _ _ _ _ _ _ (sym low.0 ∙ h.0)) (omega (arith, h.1.order)) (omega (arith, h.1.high)))

pub returns-then-not-is_empty-clause-none : goal.returns-then-not-is_empty-clause-none
returns-then-not-is_empty-clause-none c range h =
    let low = c.in_ok-low.ensures.some in
    let high = c.in_ok-high.ensures.some in
    let last : decimal c.in_ok-high.high ∷ texts c.in_ok-high.words.now ≡ decimal range.high ∷ [] = sym high.0 ∙ past_two _ _ _ _ _ _ (sym low.0 ∙ h.0) in
    let over : [] ≡ texts c.in_ok-high.words.now = cc in
    is_over _ over c.if-not-is_empty.ensures

pub returns-then-not-is_range-clause-none : goal.returns-then-not-is_range-clause-none
returns-then-not-is_range-clause-none c range h =
    let low = c.in_ok-low.ensures.some in
    let high = c.in_ok-high.ensures.some in
    let last : decimal c.in_ok-high.high ∷ texts c.in_ok-high.words.now ≡ decimal range.high ∷ [] = sym high.0 ∙ past_two _ _ _ _ _ _ (sym low.0 ∙ h.0) in
    let same_low : c.in_ok-low.low ≡ range.low = decimal_injective _ _ (omega (arith, low.2)) (omega (arith, h.1.order, h.1.high)) (second_is _ _ _ _ _ _ (sym low.0 ∙ h.0)) in
    let same_high : c.in_ok-high.high ≡ range.high = decimal_injective _ _ (omega (arith, high.2)) (omega (arith, h.1.high)) cc in
    false≢true (c.if-not-is_range.ensures.1 (rw (same_low, same_high) (h.1.order, h.1.even)))
