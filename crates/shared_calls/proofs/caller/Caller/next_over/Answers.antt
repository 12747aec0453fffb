use Rattle.std.proofs.Common.{subst}
use Rattle.std.specs.Prelude.{MatchOption}
use Rattle.section_machine.specs.Waits.{IsNextOver, NeverOver}
use Rattle.shared_calls.specs.Callings.{Calling}
use Rattle.shared_calls.proofs.caller.Caller.next_over.Goals as goal

pub returns : goal.returns
returns c =
    subst (λ (x : Calling). MatchOption c.next_over.result (NeverOver x.kept.own.waits) (IsNextOver x.kept.own.waits)) c.self.view_is c.next_over.ensures
