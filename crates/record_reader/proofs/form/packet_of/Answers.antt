use Rattle.std.proofs.Common.{sym, ◌∙◌, append-nil}
use Rattle.record_reader.proofs.Cursor.{past_two, is_over}
use Rattle.record_reader.proofs.OneForm.{nothing_lacks_net}
use Rattle.record_reader.proofs.form.packet_of.Goals as goal

pub returns-then-not-is_empty-clause-none : goal.returns-then-not-is_empty-clause-none
returns-then-not-is_empty-clause-none c p h fits =
    let dst = past_two _ _ _ _ _ _ (sym c.in_ok-src.ensures.some.0 ∙ h) in
    let dev = past_two _ _ _ _ _ _ (sym c.in_ok-dst.ensures.some.0 ∙ dst) in
    let net = past_two _ _ _ _ _ _ (sym c.in_ok-dev.ensures.some.0 ∙ dev) in
    is_over _ (c.net_first-net.ensures.only p.net _ (net ∙ sym (append-nil _)) fits.net nothing_lacks_net) c.if-not-is_empty.ensures
