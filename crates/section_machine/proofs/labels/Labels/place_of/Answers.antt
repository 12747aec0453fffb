use Rattle.std.proofs.Common.{subst}
use Rattle.flat_list.specs.Sections.{name_at}
use Rattle.section_machine.specs.Places.{Labelled, HaveNames}
use Rattle.section_machine.proofs.labels.Labels.place_of.Goals as goal

pub returns-clause-names : goal.returns-clause-names
returns-clause-names c = subst (λ (l : Labelled). HaveNames (name_at l.number) l.places) c.self.view_is c.self.invariant.names
