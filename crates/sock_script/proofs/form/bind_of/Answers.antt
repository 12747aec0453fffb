use Rattle.std.proofs.Common.{[], refl}
use Rattle.sock_script.proofs.Verbs.{bind_after}
use Rattle.sock_script.proofs.Words.{after_one, none_left}
use Rattle.sock_script.proofs.form.bind_of.Goals as goal

pub returns-in_err-end-clause-none : goal.returns-in_err-end-clause-none
returns-in_err-end-clause-none c =
    rw c.from_residual-in_err-end.ensures (λ k h.
    let form = bind_after _ k h in
    let label = c.in_ok-label.ensures.some in
    c.in_err-end.ensures.none form.1 [] (after_one _ _ _ _ _ _ _ label.0 form.2.0) form.2.1.1)

pub returns-clause-some : goal.returns-clause-some
returns-clause-some c =
    let label = c.in_ok-label.ensures.some in
    let end = c.in_ok-end.ensures.some in
    let last = none_left _ c.if-not-is_empty.ensures in
    rw (c.bind.ensures, c.label_of-label.ensures, label.0, end.0, last) (refl, (label.1, end.1))
