use Rattle.line_forms.specs.Seen.{texts}
use Rattle.line_forms.proofs.Walk.{has_flag, map_err}
use Rattle.line_forms.proofs.misfit.take_flag.Goals as goal

pub returns-clause-err : goal.returns-clause-err
returns-clause-err c =
    map_err c.take.result _ _
    (λ m h wanted words parts s at. h wanted words parts (has_flag wanted words c.args.keyword parts (texts c.args.words.now) c.if-not-begins.ensures s) at)
    c.take.ensures.err
