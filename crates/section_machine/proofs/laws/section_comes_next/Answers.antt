use Rattle.section_machine.proofs.Begins as proofs
use Rattle.section_machine.proofs.laws.section_comes_next.Goals as goal

pub returns : goal.returns
returns c = proofs.section_comes_next
