use Rattle.std.proofs.Common.{length, ap, ◌∙◌, arith}
use Rattle.open_places.specs.Cells.{Places}
use Rattle.open_places.proofs.Pages.{count_of}
use Rattle.open_places.proofs.paged.Paged.len.Goals as goal

pub returns-clause-cells : goal.returns-clause-cells
returns-clause-cells g c =
    let count = count_of c.self.inside.earlier c.self.inside.number c.self.inside.last c.self.invariant ∙ ap (λ (p : Places g.row.T.Denot). length p.cells) c.self.view_is in
    omega (arith, count, c.len.ensures)
