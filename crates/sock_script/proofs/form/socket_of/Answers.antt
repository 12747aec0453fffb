use Rattle.std.proofs.Common.{◌∙◌, sym, []}
use Rattle.sock_script.proofs.Verbs.{socket_after}
use Rattle.sock_script.proofs.Words.{after_one, is_over, options_of, rest-lacks_net, rest-lacks_uid, flags-lack_dev, reuseport-lacks_reuseaddr, noport-lacks_reuseport, flag-last}
use Rattle.sock_script.proofs.form.socket_of.Goals as goal

pub returns-then-not-is_empty-clause-none : goal.returns-then-not-is_empty-clause-none
returns-then-not-is_empty-clause-none c k h =
    let form = socket_after _ k h in
    let o = form.1 in
    let label = c.in_ok-label.ensures.some in
    let words = after_one _ _ _ _ _ _ _ label.0 form.2.0 ∙ options_of o in
    let users = c.namespace_first-net.ensures.only o.net _ words form.2.1.1 (rest-lacks_net o) in
    let devices = c.user_first-uid.ensures.only o.uid _ (sym users) form.2.1.2 (rest-lacks_uid o) in
    let flags = c.device_first-dev.ensures.only o.dev _ (sym devices) form.2.1.3 (flags-lack_dev o) in
    let ports = c.flag_first-reuseaddr.ensures.only o.reuseaddr _ (sym flags) (reuseport-lacks_reuseaddr o) in
    let last = c.flag_first-reuseport.ensures.only o.reuseport _ (sym ports) (noport-lacks_reuseport o) in
    is_over _ (c.flag_first-noport.ensures.only o.noport [] (sym last ∙ flag-last _ o.noport) (λ e. cc)) c.if-not-is_empty.ensures
