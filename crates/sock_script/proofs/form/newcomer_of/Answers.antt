use Rattle.std.proofs.Common.{refl}
use Rattle.sock_script.proofs.form.newcomer_of.Goals as goal

pub returns-clause-some : goal.returns-clause-some
returns-clause-some c =
    let listener = c.in_ok-listener.ensures.some in
    let label = c.in_ok-label.ensures.some in
    let ends = c.in_ok-from.ensures.some in
    rw (c.label_of.ensures, c.label_of-2.ensures, listener.0, label.0, ends.0) (refl, listener.1, label.1, ends.1, ends.2)
