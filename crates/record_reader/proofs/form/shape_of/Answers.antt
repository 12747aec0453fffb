use Rattle.std.proofs.Common.{sym, ◌∙◌, arith}
use Rattle.record_reader.proofs.Cursor.{past_one, past_two}
use Rattle.record_reader.proofs.form.shape_of.Goals as goal

pub returns-in_err-seed-clause-none : goal.returns-in_err-seed-clause-none
returns-in_err-seed-clause-none c =
    rw c.from_residual-in_err-seed.ensures (λ s n h.
    let behind = past_two _ _ _ _ _ _ (past_two _ _ _ _ _ _ (sym c.in_ok-shape.ensures.some.0 ∙ past_one _ _ _ _ h.0)) in
    c.in_err-seed.ensures.none n _ (past_one _ _ _ _ (sym c.in_ok-words.ensures.some ∙ behind)) (omega arith) (omega (arith, h.1.1)))
