use Rattle.std.proofs.Common.{None, ap, refl, ◌∙◌, arith}
use Rattle.std.specs.Option.{option_map}
use Rattle.std.proofs.lemmas.List.{get_or_read}
use Rattle.open_places.specs.Pages.{one_if}
use Rattle.open_places.proofs.Counts.{kept_set, one_emptied}
use Rattle.open_places.proofs.page.Page.take.Goals as goal

pub invariant_of-self-2 : goal.invariant_of-self-2
invariant_of-self-2 g c =
    let cells = c.self.inside.cells in
    let was = c.in_ok-get_mut.field-0.now in
    let here = get_or_read cells.items c.args.place was (let l = c.in_ok-get_mut.ensures.variant.0 refl in omega (arith, l, cells.ok.0)) c.in_ok-get_mut.ensures.value None in
    let count = kept_set cells.items c.args.place c.take_out.new.cell (λ none. c.take_out.ensures.after ∙ ap (option_map (λ _. None)) (here ∙ none)) in
    let same = ap one_if c.take_out.ensures.after ∙ one_emptied was ∙ ap one_if here in
    omega (arith, c.self.invariant, count, same)
