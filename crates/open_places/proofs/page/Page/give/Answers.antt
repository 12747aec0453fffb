use Rattle.std.proofs.Common.{Some, None, ap, ◌∙◌, arith}
use Rattle.open_places.specs.Pages.{kept_on}
use Rattle.open_places.proofs.Counts.{kept_more, kept_fit}
use Rattle.open_places.proofs.page.Page.give.Goals as goal

pub overflow_add-self : goal.overflow_add-self
overflow_add-self g c =
    let cells = c.self.inside.cells in
    omega (arith, c.self.invariant, kept_fit cells.items, cells.ok.0, cells.ok.1, cells.small)

pub invariant_of-self-2 : goal.invariant_of-self-2
invariant_of-self-2 g c =
    let more = ap kept_on c.in_ok-push.ensures.items ∙ kept_more c.self.inside.cells.items (Some None) in
    omega (arith, c.self.invariant, more)
