use Rattle.std.proofs.Common.{refl, [], arith}
use Rattle.line_forms.specs.Seen.{texts}
use Rattle.line_forms.specs.Wants.{wants}
use Rattle.line_forms.proofs.Walk.{map_err}
use Rattle.line_forms.proofs.misfit.check.Goals as goal

pub returns-clause-err : goal.returns-clause-err
returns-clause-err c =
    map_err c.check_from.result _ _
    (λ m h.
    h (wants c.args.parts.now (texts c.args.words.now)) (texts c.args.words.now)
    (record { front = []; before = []; words_are = refl; wanted_are = refl; fit = tt })
    (omega arith))
    c.check_from.ensures.err
