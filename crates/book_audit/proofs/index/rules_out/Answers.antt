use Rattle.std.proofs.Common.{sym, ◌∙◌, subst, List}
use Rattle.sock_card.specs.declared.card.Card.{Card}
use Rattle.book_audit.specs.declared.stays.Stay.{Stay}
use Rattle.book_audit.specs.declared.printed.PrintedLook.{PrintedLook}
use Rattle.book_audit.specs.Index.{GoneAt}
use Rattle.book_audit.proofs.Faces.{ruled_out, all_of_six}
use Rattle.book_audit.proofs.index.rules_out.Goals as goal

pub returns : goal.returns
returns c = λ t o.
    let stays : List Stay = c.args.stays.now in
    let look : PrintedLook = c.args.look.now in
    let gone : Card → Type 0 = λ x. GoneAt stays look x in
    let s = all_of_six c.is_gone_from-plain.result c.is_gone_from-here.result c.is_gone_here-exact_here.result c.is_gone_from-exact.result c.is_gone_here-any_here.result c.is_gone_from-any.result (sym c.all_six.ensures ∙ t) in
    ruled_out stays look c.args.least c.requires
    (λ l. subst gone c.connected.ensures (c.is_gone_from-plain.ensures s.one o l))
    (λ l. subst gone c.connected-2.ensures (c.is_gone_from-here.ensures s.two o l))
    (λ n l. c.is_gone_here-exact_here.ensures s.three o n l)
    (λ l. subst gone c.listening.ensures (c.is_gone_from-exact.ensures s.four o l))
    (λ n l. c.is_gone_here-any_here.ensures s.five o n l)
    (λ l. subst gone c.listening-2.ensures (c.is_gone_from-any.ensures s.six o l))
