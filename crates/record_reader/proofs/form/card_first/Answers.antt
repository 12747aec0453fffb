use Rattle.std.proofs.Common.{sym, ◌∙◌}
use Rattle.record_reader.proofs.Cursor.{past_one}
use Rattle.record_reader.proofs.form.card_first.Goals as goal

pub returns-in_err-name-clause-none : goal.returns-in_err-name-clause-none
returns-in_err-name-clause-none c =
    rw c.from_residual-in_err-name.ensures (λ name card rest h fits fit.
    c.in_err-name.ensures.none name _ (past_one _ _ _ _ (sym c.in_ok-kind.ensures.some ∙ h)) fits)

pub returns-in_err-local-clause-none : goal.returns-in_err-local-clause-none
returns-in_err-local-clause-none c =
    rw c.from_residual-in_err-local.ensures (λ name card rest h fits fit.
    let named = past_one _ _ _ _ (sym c.in_ok-kind.ensures.some ∙ h) in
    c.in_err-local.ensures.none card.local card.lport _ (past_one _ _ _ _ (sym c.in_ok-name.ensures.some.0 ∙ named)) fit.local fit.lport)

pub returns-in_err-remote-clause-none : goal.returns-in_err-remote-clause-none
returns-in_err-remote-clause-none c =
    rw c.from_residual-in_err-remote.ensures (λ name card rest h fits fit.
    let named = past_one _ _ _ _ (sym c.in_ok-kind.ensures.some ∙ h) in
    let local = past_one _ _ _ _ (sym c.in_ok-name.ensures.some.0 ∙ named) in
    c.in_err-remote.ensures.none card.remote card.rport _ (past_one _ _ _ _ (sym c.in_ok-local.ensures.some.0 ∙ local)) fit.remote fit.rport)

pub returns-in_err-dev-clause-none : goal.returns-in_err-dev-clause-none
returns-in_err-dev-clause-none c =
    rw c.from_residual-in_err-dev.ensures (λ name card rest h fits fit.
    let named = past_one _ _ _ _ (sym c.in_ok-kind.ensures.some ∙ h) in
    let local = past_one _ _ _ _ (sym c.in_ok-name.ensures.some.0 ∙ named) in
    let remote = past_one _ _ _ _ (sym c.in_ok-local.ensures.some.0 ∙ local) in
    c.in_err-dev.ensures.none card.dev _ (past_one _ _ _ _ (sym c.in_ok-remote.ensures.some.0 ∙ remote)) fit.dev)
