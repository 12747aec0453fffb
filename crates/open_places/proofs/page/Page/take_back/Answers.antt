use Rattle.std.proofs.Common.{ap, ◌∙◌, arith}
use Rattle.open_places.specs.Pages.{kept_on}
use Rattle.open_places.proofs.Counts.{kept_more}
use Rattle.open_places.proofs.page.Page.take_back.Goals as goal

pub overflow_sub-self : goal.overflow_sub-self
overflow_sub-self g c =
    let count = ap kept_on c.in-Some.ensures.items ∙ kept_more c.pop.new.self.items c.in-Some.cell in
    omega (arith, c.self.invariant, count, c.one_if_kept.ensures)

pub invariant_of-self : goal.invariant_of-self
invariant_of-self g c =
    let count = ap kept_on c.in-Some.ensures.items ∙ kept_more c.pop.new.self.items c.in-Some.cell in
    omega (arith, c.self.invariant, count, c.one_if_kept.ensures)

pub invariant_of-self-in-Some-2 : goal.invariant_of-self-in-Some-2
invariant_of-self-in-Some-2 g c =
    let count = ap kept_on c.in-Some.ensures.items ∙ kept_more c.pop.new.self.items c.in-Some.cell in
    omega (arith, c.self.invariant, count, c.one_if_kept.ensures)

pub invariant_of-self-in-Some-3 : goal.invariant_of-self-in-Some-3
invariant_of-self-in-Some-3 g c =
    let count = ap kept_on c.in-Some.ensures.items ∙ kept_more c.pop.new.self.items c.in-Some.cell in
    omega (arith, c.self.invariant, count, c.one_if_kept.ensures)
