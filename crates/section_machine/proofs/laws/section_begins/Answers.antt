use Rattle.section_machine.proofs.Begins as proofs
use Rattle.section_machine.proofs.laws.section_begins.Goals as goal

pub returns : goal.returns
returns c = proofs.section_begins
