use Rattle.std.proofs.Common.{sym, subst}
use Rattle.std.specs.Prelude.{IfOk}
use Rattle.section_machine.specs.Sections.{Did, Kept}
use Rattle.section_machine.specs.Standing.{IsSection}
use Rattle.sock_ops.specs.Stands.{turned, chained}
use Rattle.section_machine.proofs.Steps.{did_so, section_so}
use Rattle.section_machine.proofs.machine.Machine.try_step.Goals as goal

pub returns-clause-section : goal.returns-clause-section
returns-clause-section g c =
    subst (λ (k : Kept). IsSection c.args.tables.now k c.carry-outcome.new.worker) (sym c.let_go.ensures)
    (section_so c.args.tables.now c.args.self.now c.carry-outcome.new.self c.args.command.now c.args.worker.now c.carry-outcome.new.worker c.carry-outcome.result c.carry-outcome.ensures.carried c.carry-outcome.ensures.section)

pub returns-clause-did : goal.returns-clause-did
returns-clause-did g c =
    subst (λ (k : Kept). IfOk c.carry-outcome.result (Did c.args.self.now.header c.args.self.now.own c.args.command.now (turned c.args.worker.now) (turned c.carry-outcome.new.worker) (chained c.args.tables.now c.args.worker.now) (chained c.args.tables.now c.carry-outcome.new.worker) k.own)) (sym c.let_go.ensures)
    (did_so c.args.tables.now c.args.self.now c.carry-outcome.new.self c.args.command.now c.args.worker.now c.carry-outcome.new.worker c.carry-outcome.result c.carry-outcome.ensures.carried)
