use Rattle.std.proofs.Common.{sym, ◌∙◌}
use Rattle.record_reader.proofs.Cursor.{past_one}
use Rattle.record_reader.proofs.form.shape_first.Goals as goal

pub returns-in_err-bind-clause-none : goal.returns-in_err-bind-clause-none
returns-in_err-bind-clause-none c =
    rw c.from_residual-in_err-bind.ensures (λ s rest h fits.
    c.in_err-bind.ensures.none s.bind _ (past_one _ _ _ _ (sym c.in_ok-slots.ensures.some.0 ∙ h)) fits.bind)

pub returns-in_err-hash-clause-none : goal.returns-in_err-hash-clause-none
returns-in_err-hash-clause-none c =
    rw c.from_residual-in_err-hash.ensures (λ s rest h fits.
    let words = past_one _ _ _ _ (sym c.in_ok-slots.ensures.some.0 ∙ h) in
    c.in_err-hash.ensures.none s.hash _ (past_one _ _ _ _ (sym c.in_ok-bind.ensures.some.0 ∙ words)) fits.hash)

pub returns-in_err-listen-clause-none : goal.returns-in_err-listen-clause-none
returns-in_err-listen-clause-none c =
    rw c.from_residual-in_err-listen.ensures (λ s rest h fits.
    let words = past_one _ _ _ _ (sym c.in_ok-slots.ensures.some.0 ∙ h) in
    let more = past_one _ _ _ _ (sym c.in_ok-bind.ensures.some.0 ∙ words) in
    c.in_err-listen.ensures.none s.listen _ (past_one _ _ _ _ (sym c.in_ok-hash.ensures.some.0 ∙ more)) fits.listen)
