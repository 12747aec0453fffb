use Rattle.std.proofs.Common.{sym, ap, ◌∙◌, subst}
use Rattle.std.specs.Prelude.{MatchOption}
use Rattle.open_places.specs.Cells.{Places, AreEmptyFrom, IsNextFull}
use Rattle.open_places.specs.Forms.{places_in}
use Rattle.open_places.proofs.Arrays.{array_next}
use Rattle.open_places.proofs.places.OpenPlaces.next_full.Goals as goal

pub returns-in-Array : goal.returns-in-Array
returns-in-Array g c =
    subst (λ (p : Places g.row.T.Denot). MatchOption c.next_full.result (AreEmptyFrom p.cells c.args.first) (IsNextFull p.cells c.args.first)) (sym (ap places_in c.in-Array.is) ∙ c.self.view_is)
    (array_next c.in-Array.array c.args.first c.next_full.result c.next_full.ensures)
