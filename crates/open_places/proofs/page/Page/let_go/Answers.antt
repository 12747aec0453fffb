use Rattle.std.proofs.Common.{None, ap, refl, arith}
use Rattle.std.proofs.lemmas.List.{get_or_read}
use Rattle.open_places.specs.Pages.{one_if}
use Rattle.open_places.proofs.Counts.{kept_set}
use Rattle.open_places.proofs.page.Page.let_go.Goals as goal

pub overflow_sub-self : goal.overflow_sub-self
overflow_sub-self g c =
    let cells = c.self.inside.cells in
    let here = get_or_read cells.items c.args.place c.in-Some.cell.now (let l = c.in-Some.ensures.variant.0 refl in omega (arith, l, cells.ok.0)) c.in-Some.ensures.value None in
    let count = kept_set cells.items c.args.place None (λ none. refl) in
    omega (arith, c.self.invariant, count, ap one_if here, c.one_if_kept.ensures)

pub invariant_of-self : goal.invariant_of-self
invariant_of-self g c =
    let cells = c.self.inside.cells in
    let here = get_or_read cells.items c.args.place c.in-Some.cell.now (let l = c.in-Some.ensures.variant.0 refl in omega (arith, l, cells.ok.0)) c.in-Some.ensures.value None in
    let count = kept_set cells.items c.args.place None (λ none. refl) in
    omega (arith, c.self.invariant, count, ap one_if here, c.one_if_kept.ensures)

pub invariant_of-self-in-Some-2 : goal.invariant_of-self-in-Some-2
invariant_of-self-in-Some-2 g c =
    let cells = c.self.inside.cells in
    let here = get_or_read cells.items c.args.place c.in-Some.cell.now (let l = c.in-Some.ensures.variant.0 refl in omega (arith, l, cells.ok.0)) c.in-Some.ensures.value None in
    let count = kept_set cells.items c.args.place None (λ none. refl) in
    omega (arith, c.self.invariant, count, ap one_if here, c.one_if_kept.ensures)
