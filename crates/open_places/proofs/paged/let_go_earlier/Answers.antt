use Rattle.std.proofs.Common.{None, sym, subst, refl}
use Rattle.std.specs.Prelude.{IsSome}
use Rattle.open_places.proofs.Pages.{sets_gone, sets_page}
use Rattle.open_places.proofs.paged.let_go_earlier.Goals as goal

pub returns-then-is_let_go : goal.returns-then-is_let_go
returns-then-is_let_go g c =
    let old = c.args.earlier.now in
    let written = c.let_go.new.self in
    let mid = c.get_mut.follows.lender written in
    let updates = (c.get_mut.follows.holds written).3 (subst IsSome c.in-Some.ensures.value refl) in
    let sets = sets_page old mid c.args.place c.in-Some.page.now written None (sym c.in-Some.ensures.value) updates c.let_go.ensures in
    sets_gone old c.remove.new.self c.args.place mid written sets updates.1 (c.is_let_go.ensures.0 c.if-is_let_go.true) c.remove.ensures.updates
