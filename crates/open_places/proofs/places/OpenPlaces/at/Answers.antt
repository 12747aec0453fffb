use Rattle.std.proofs.Common.{None, sym, ap, ◌∙◌}
use Rattle.std.specs.List.{slice_index_or}
use Rattle.open_places.specs.Cells.{Places}
use Rattle.open_places.specs.Forms.{places_in}
use Rattle.open_places.proofs.Arrays.{array_values}
use Rattle.open_places.proofs.places.OpenPlaces.at.Goals as goal

pub returns-in-Array : goal.returns-in-Array
returns-in-Array g c =
    c.at.ensures ∙ sym (array_values c.in-Array.array c.args.place)
    ∙ ap (λ (p : Places g.row.T.Denot). slice_index_or p.cells c.args.place None) (sym (ap places_in c.in-Array.is) ∙ c.self.view_is)
