use Rattle.std.proofs.Common.{List, subst}
use Rattle.std.specs.Prelude.{MatchOption}
use Rattle.table_model.specs.Own.{Mine}
use Rattle.section_machine.specs.Waits.{IsNextOver, NeverOver}
use Rattle.section_machine.proofs.NextOver.{next_over}
use Rattle.section_machine.proofs.waits.Waits.next_over.Goals as goal

pub returns : goal.returns
returns c =
    let first = c.in_ok-front.ensures in
    subst (λ (waits : List Mine). MatchOption c.moment_of.result (NeverOver waits) (IsNextOver waits)) c.self.view_is
    (next_over c.self.inside.items.items c.in_ok-front.field-0.now c.moment_of.result first.item.0 first.lookup c.self.invariant c.moment_of.ensures)
