use Rattle.std.proofs.Common.{List, subst}
use Rattle.record_reader.specs.declared.line.Line.{Line}
use Rattle.record_reader.specs.Told.{Tells}
use Rattle.record_reader.proofs.Shapes.{shape_fits}
use Rattle.record_reader.proofs.read.read.Goals as goal

pub returns-clause-shape : goal.returns-clause-shape
returns-clause-shape c =
    shape_fits c.args.text.now c.in_ok-lines.lines.items c.in_ok-printed.printed c.in_ok-lines.ensures.record
    (subst (λ (ls : List Line). Tells ls c.in_ok-printed.printed) c.deref.ensures.value c.in_ok-printed.ensures)
