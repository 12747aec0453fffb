use Rattle.std.proofs.Common.{◌≡◌, length, sym, ap, ◌∙◌, subst}
use Rattle.open_places.specs.Cells.{Places}
use Rattle.open_places.specs.Forms.{in_array, places_in}
use Rattle.open_places.proofs.Arrays.{array_count, array_kept_count}
use Rattle.open_places.proofs.places.OpenPlaces.len.Goals as goal

pub returns-in-Array-clause-cells : goal.returns-in-Array-clause-cells
returns-in-Array-clause-cells g c =
    let was : in_array c.in-Array.array ≡ c.args.self.now = sym (ap places_in c.in-Array.is) ∙ c.self.view_is in
    c.len.ensures ∙ array_count c.in-Array.array ∙ ap (λ (p : Places g.row.T.Denot). length p.cells) was

pub returns-in-Array-clause-kept : goal.returns-in-Array-clause-kept
returns-in-Array-clause-kept g c =
    let was : in_array c.in-Array.array ≡ c.args.self.now = sym (ap places_in c.in-Array.is) ∙ c.self.view_is in
    subst (λ (p : Places g.row.T.Denot). length p.kept ≡ length p.cells) was (array_kept_count c.in-Array.array)
