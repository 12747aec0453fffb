use Rattle.std.proofs.Common.{refl}
use Rattle.sock_script.proofs.Words.{none_left}
use Rattle.sock_script.proofs.form.connect_of.Goals as goal

pub returns-clause-some : goal.returns-clause-some
returns-clause-some c =
    let label = c.in_ok-label.ensures.some in
    let to = c.in_ok-to.ensures.some in
    let last = none_left _ c.if-not-is_empty.ensures in
    rw (c.connect.ensures, c.label_of-label.ensures, label.0, c.source_first-from.ensures.spelled, to.0, last) (refl, (label.1, c.source_first-from.ensures.fits, to.1))
