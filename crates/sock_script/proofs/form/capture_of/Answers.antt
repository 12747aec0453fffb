use Rattle.std.proofs.Common.{◌∙◌, sym, []}
use Rattle.sock_script.proofs.Words.{past_one, is_over, namespace-lacks_dev, namespace-last}
use Rattle.sock_script.proofs.form.capture_of.Goals as goal

pub returns-else-is_empty-clause-none : goal.returns-else-is_empty-clause-none
returns-else-is_empty-clause-none c dev net h =
    let words = past_one _ _ _ _ (sym c.in_ok-words.ensures.some ∙ h.0) in
    let last = c.device_first-dev.ensures.only dev _ words h.1 (namespace-lacks_dev net) in
    is_over _ (c.namespace_first-net.ensures.only net [] (sym last ∙ namespace-last net) h.2 (λ e. cc)) c.if-is_empty.ensures
