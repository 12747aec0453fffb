use Rattle.std.proofs.Common.{◌≡◌, ◌*◌, length, false, Some, is_some, is_gt, nat_cmp, arith, ap, ◌∙◌, subst}
use Rattle.std.proofs.lemmas.Grind.{common_steps}
use Rattle.std.proofs.lemmas.Map.Keys.{le_from_not_gt}
use Rattle.std.specs.Prelude.{IfSome, ⊤}
use Rattle.std.specs.BTreeMap.{get}
use Rattle.std.specs.List.{slice_get}
use Rattle.open_places.specs.Cells.{Places, AreEmpty}
use Rattle.open_places.specs.Pages.{Shows}
use Rattle.open_places.proofs.Pages.{count_of}
use Rattle.open_places.proofs.Seeks.{empty_pages, none_there, page_below, shows_earlier, shows_last}
use Rattle.open_places.proofs.paged.Paged.page_from.Goals as goal

pub returns-in-Some-clause-shows : goal.returns-in-Some-clause-shows
returns-in-Some-clause-shows g c =
    let first = subst (λ r. IfSome (slice_get r 0) (λ e. ((is_gt (nat_cmp c.args.from e.0) ≡ false) × ⊤) × (get nat_cmp c.self.inside.earlier e.0 ≡ Some e.1))) c.in-Some.ensures.steps ((c.range.ensures.in_range tt).1) in
    let below = page_below c.self.inside.earlier c.self.inside.number c.self.inside.last c.self.invariant c.in-Some.number.now (ap is_some first.1) in
    subst (λ (p : Places g.row.T.Denot). Shows p.cells c.in-Some.number.now c.in-Some.page.now) c.self.view_is
    (shows_earlier c.self.inside.earlier c.self.inside.number c.self.inside.last c.self.invariant c.in-Some.number.now c.in-Some.page.now first.1 below)

pub returns-in-Some-clause-between : goal.returns-in-Some-clause-between
returns-in-Some-clause-between g c =
    let first = subst (λ r. IfSome (slice_get r 0) (λ e. ((is_gt (nat_cmp c.args.from e.0) ≡ false) × ⊤) × (get nat_cmp c.self.inside.earlier e.0 ≡ Some e.1))) c.in-Some.ensures.steps ((c.range.ensures.in_range tt).1) in
    let below = page_below c.self.inside.earlier c.self.inside.number c.self.inside.last c.self.invariant c.in-Some.number.now (ap is_some first.1) in
    subst (λ (p : Places g.row.T.Denot). AreEmpty p.cells (c.args.from * 32) (c.in-Some.number.now * 32)) c.self.view_is
    (empty_pages c.self.inside.earlier c.self.inside.number c.self.inside.last c.self.invariant c.args.from c.in-Some.number.now (omega (arith, below))
    (λ q l less. none_there (get nat_cmp c.self.inside.earlier q) (λ some.
    let least = le_from_not_gt c.in-Some.number.now q (subst (λ r. IfSome (slice_get r 0) (λ e. is_gt (nat_cmp e.0 q) ≡ false)) c.in-Some.ensures.steps ((c.range.ensures.in_range tt).2 q (grind (arith, common_steps, l), tt) some)) in
    omega (arith, least, less))))

pub returns-in-None-clause-from : goal.returns-in-None-clause-from
returns-in-None-clause-from g c =
    let count = count_of c.self.inside.earlier c.self.inside.number c.self.inside.last c.self.invariant ∙ ap (λ (p : Places g.row.T.Denot). length p.cells) c.self.view_is in
    omega (arith, c.requires, count, c.self.invariant.within)

pub returns-in-None-clause-shows : goal.returns-in-None-clause-shows
returns-in-None-clause-shows g c =
    subst (λ (p : Places g.row.T.Denot). Shows p.cells c.self.inside.number c.self.inside.last) c.self.view_is
    (shows_last c.self.inside.earlier c.self.inside.number c.self.inside.last c.self.invariant)

pub returns-in-None-clause-between : goal.returns-in-None-clause-between
returns-in-None-clause-between g c =
    let all = (c.range.ensures.in_range tt).5 c.in-None.ensures.steps.0 in
    subst (λ (p : Places g.row.T.Denot). AreEmpty p.cells (c.args.from * 32) (c.self.inside.number * 32)) c.self.view_is
    (empty_pages c.self.inside.earlier c.self.inside.number c.self.inside.last c.self.invariant c.args.from c.self.inside.number (omega arith)
    (λ q l less. all q (grind (arith, common_steps, l), tt)))
