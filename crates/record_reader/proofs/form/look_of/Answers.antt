use Rattle.std.proofs.Common.{sym, ◌∙◌}
use Rattle.record_reader.proofs.Cursor.{past_two}
use Rattle.record_reader.proofs.form.look_of.Goals as goal

pub returns-in_err-t1-clause-none : goal.returns-in_err-t1-clause-none
returns-in_err-t1-clause-none c =
    rw c.from_residual-in_err-t1.ensures (λ l h fits.
    let behind = c.in_ok-answer.ensures.only l.answer _ h in
    c.in_err-t1.ensures.none l.t1 _ (past_two _ _ _ _ _ _ (sym c.in_ok-t0.ensures.some.0 ∙ sym behind)) fits.t1)
