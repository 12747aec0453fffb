use Rattle.std.proofs.Common.{◌∙◌, sym, []}
use Rattle.sock_script.proofs.Verbs.{look_after}
use Rattle.sock_script.proofs.Words.{after_one, after_two, is_over, namespace-lacks_dev, namespace-last}
use Rattle.sock_script.proofs.form.look_of.Goals as goal

pub returns-in_err-to-clause-none : goal.returns-in_err-to-clause-none
returns-in_err-to-clause-none c =
    rw c.from_residual-in_err-to.ensures (λ k h.
    let form = look_after _ k h in
    let from = c.in_ok-from.ensures.some in
    c.in_err-to.ensures.none form.0.to _ (after_one _ _ _ _ _ _ _ from.0 form.1.0) form.1.1.1)

pub returns-then-not-is_empty-clause-none : goal.returns-then-not-is_empty-clause-none
returns-then-not-is_empty-clause-none c k h =
    let form = look_after _ k h in
    let query = form.0 in
    let from = c.in_ok-from.ensures.some in
    let to = c.in_ok-to.ensures.some in
    let words = after_two _ _ _ _ _ _ _ _ _ _ from.0 to.0 form.1.0 in
    let last = c.device_first-dev.ensures.only query.dev _ words form.1.1.2 (namespace-lacks_dev query.net) in
    is_over _ (c.namespace_first-net.ensures.only query.net [] (sym last ∙ namespace-last query.net) form.1.1.3 (λ e. cc)) c.if-not-is_empty.ensures
