use Rattle.std.proofs.Common.{◌+◌, sym, subst}
use Rattle.std.specs.Prelude.{MatchOption}
use Rattle.section_machine.specs.Opened.{NoneAbove, IsNextOpen}
use Rattle.section_machine.specs.Sections.{Kept}
use Rattle.section_machine.proofs.Opened.{none_above, next_open}
use Rattle.section_machine.proofs.machine.Machine.next_open.Goals as goal

pub returns-in_err-place : goal.returns-in_err-place
returns-in_err-place c =
    let none = none_above c.self.inside.labels c.next_full.ensures.names c.self.inside.moment c.self.inside.offsets c.self.inside.waits c.args.after c.in_err-place.ensures.next in
    subst (λ o. MatchOption o (NoneAbove c.args.self.now.own c.args.after) (IsNextOpen c.args.self.now.own c.args.after)) (sym c.from_residual.ensures)
    (subst (λ (k : Kept). NoneAbove k.own c.args.after) c.self.view_is none)

pub returns : goal.returns
returns c =
    let next = next_open c.self.inside.labels c.next_full.ensures.names c.self.inside.moment c.self.inside.offsets c.self.inside.waits c.args.after c.in_ok-place.place c.in_ok-place.ensures.next c.in_ok-place.ensures.within in
    subst (λ (k : Kept). IsNextOpen k.own c.args.after (c.in_ok-place.place + 1)) c.self.view_is next
