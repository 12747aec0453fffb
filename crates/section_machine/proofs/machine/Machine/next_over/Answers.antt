use Rattle.std.proofs.Common.{subst}
use Rattle.std.specs.Prelude.{MatchOption}
use Rattle.section_machine.specs.Sections.{Kept}
use Rattle.section_machine.specs.Waits.{IsNextOver, NeverOver}
use Rattle.section_machine.proofs.machine.Machine.next_over.Goals as goal

pub returns : goal.returns
returns c =
    subst (λ (x : Kept). MatchOption c.next_over.result (NeverOver x.own.waits) (IsNextOver x.own.waits)) c.self.view_is c.next_over.ensures
