use Rattle.std.proofs.Common.{subst, sym}
use Rattle.section_machine.specs.Sections.{Kept}
use Rattle.section_machine.specs.Standing.{StaysSection}
use Rattle.section_machine.proofs.Moments.{mark_set, marked}
use Rattle.section_machine.proofs.machine.Machine.set_mark.Goals as goal

pub returns-clause-set : goal.returns-clause-set
returns-clause-set c =
    mark_set c.args.self.now c.self.inside.header c.self.inside.labels c.set_mark.new.self c.args.mark c.self.inside.moment c.self.inside.offsets c.self.inside.waits c.self.view_is c.set_mark.ensures

pub returns-clause-section : goal.returns-clause-section
returns-clause-section c =
    subst (StaysSection c.args.self.now)
    (sym (mark_set c.args.self.now c.self.inside.header c.self.inside.labels c.set_mark.new.self c.args.mark c.self.inside.moment c.self.inside.offsets c.self.inside.waits c.self.view_is c.set_mark.ensures))
    (marked c.args.self.now c.args.mark)
