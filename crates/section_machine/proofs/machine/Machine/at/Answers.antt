use Rattle.section_machine.proofs.Moments.{later}
use Rattle.section_machine.proofs.machine.Machine.at.Goals as goal

pub returns-clause-carried : goal.returns-clause-carried
returns-clause-carried c =
    later c.args.tables.now c.args.self.now c.self.inside.header c.self.inside.labels c.self.inside.moment c.args.moment c.self.inside.offsets c.self.inside.waits c.args.worker.now c.self.view_is c.if-moment-self.false c.requires.section
