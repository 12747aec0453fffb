use Rattle.std.proofs.Common.{sym, ◌∙◌}
use Rattle.record_reader.proofs.Cursor.{past_one}
use Rattle.record_reader.proofs.form.span_first.Goals as goal

pub returns-in_err-end-clause-none : goal.returns-in_err-end-clause-none
returns-in_err-end-clause-none c =
    rw c.from_residual-in_err-end.ensures (λ s rest h fits.
    c.in_err-end.ensures.none s.end _ (past_one _ _ _ _ (sym c.in_ok-begin.ensures.some.0 ∙ h)) fits.1)
