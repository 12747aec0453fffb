use Rattle.std.proofs.Common.{Some, is_some, ap, sym, ◌∙◌, arith}
use Rattle.std.proofs.lemmas.Bool.{false≢true}
use Rattle.open_places.specs.Pages.{cell_on}
use Rattle.open_places.proofs.Counts.{kept_set, one_of}
use Rattle.open_places.proofs.page.Page.put.Goals as goal

pub invariant_of-self : goal.invariant_of-self
invariant_of-self g c =
    let old = c.self.inside.cells.items in
    let kept = ap (λ cs. is_some (cell_on cs c.args.place)) c.self.view_is ∙ c.requires.kept in
    let count = kept_set old c.args.place (Some (Some c.args.value)) (λ none. absurd (false≢true (sym (ap is_some none) ∙ kept))) in
    omega (arith, c.self.invariant, count, one_of _ kept)
