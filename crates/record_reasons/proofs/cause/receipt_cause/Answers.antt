use Rattle.std.proofs.Common.{◌∙◌, List, ap, sym}
use Rattle.record_reader.specs.declared.line.Line.{Line}
use Rattle.record_reader.specs.declared.line.Answer.{Answer}
use Rattle.record_reasons.specs.Causes as spec
use Rattle.record_reasons.proofs.cause.receipt_cause.Goals as goal

pub returns-in-Found : goal.returns-in-Found
returns-in-Found c =
    c.found_cause.ensures
    ∙ ap (λ (ls : List Line). spec.found_cause ls (record { look = c.args.look.now; kind = c.in-Found.kind; name = c.in-Found.name })) c.deref.ensures.value
    ∙ ap (λ (a : Answer). spec.receipt_cause c.args.race.now.printed c.args.race.now.lines.items c.args.look.now a) (sym c.in-Found.is)
