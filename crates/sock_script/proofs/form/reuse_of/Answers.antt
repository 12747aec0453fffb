use Rattle.std.proofs.Common.{[], ◌∷◌, List, ℕ, codes, ap, ◌∙◌}
use Rattle.sock_script.proofs.Words.{switch_of, number_of_switch}
use Rattle.sock_script.proofs.form.reuse_of.Goals as goal

pub returns-in_err-switch-clause-none : goal.returns-in_err-switch-clause-none
returns-in_err-switch-clause-none c =
    rw c.from_residual.ensures (λ reuse h.
    let number = number_of_switch reuse in
    c.in_err-switch.ensures.none number.0 (h ∙ ap (λ (w : List ℕ). codes "twreuse" ∷ w ∷ []) number.2) number.1)

pub returns-clause-some : goal.returns-clause-some
returns-clause-some c =
    let read = c.in_ok-switch.ensures.some in
    read.0 ∙ ap (λ (w : List ℕ). codes "twreuse" ∷ w ∷ []) (switch_of _ read.1)
