use Rattle.std.proofs.Common.{subst}
use Rattle.std.specs.Prelude.{MatchOption}
use Rattle.open_places.specs.Cells.{AreEmptyFrom, IsNextFull}
use Rattle.section_machine.specs.Places.{Labelled}
use Rattle.section_machine.proofs.Opened.{next_among}
use Rattle.section_machine.proofs.labels.Labels.next_full.Goals as goal

pub returns-clause-next : goal.returns-clause-next
returns-clause-next c =
    subst (λ (l : Labelled). MatchOption c.next_full.result (AreEmptyFrom l.places c.args.first) (IsNextFull l.places c.args.first)) c.self.view_is
    (next_among c.self.inside.sockets.cells c.args.first c.next_full.result c.next_full.ensures)
