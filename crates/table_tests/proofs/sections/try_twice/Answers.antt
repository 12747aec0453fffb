use Rattle.section_machine.proofs.Spent.{enough_after}
use Rattle.table_tests.proofs.sections.try_twice.Goals as goal

pub try_step-late-requires-clause-enough : goal.try_step-late-requires-clause-enough
try_step-late-requires-clause-enough c =
    enough_after c.args.machine.now c.try_step-early.new.self c.args.worker.now c.try_step-early.new.worker c.requires.enters c.requires.draws c.try_step-early.ensures.spends
