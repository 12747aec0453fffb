use Rattle.std.proofs.Common.{◌∷◌, arith}
use Rattle.std.proofs.lemmas.List.{length-map}
use Rattle.line_forms.specs.Seen.{texts}
use Rattle.line_forms.specs.declared.verb.Part.TheVariants.{Must}
use Rattle.line_forms.proofs.Walk.{has_option, map_err}
use Rattle.line_forms.proofs.misfit.take_option.Goals as goal

pub returns-in-Err-clause-err : goal.returns-in-Err-clause-err
returns-in-Err-clause-err c wanted words parts s at =
    c.in-Err.ensures.err wanted words (Must c.args.kind ∷ parts)
    (has_option wanted words c.args.keyword c.args.kind parts (texts c.args.words.now) c.if-not-begins.ensures s) at

pub returns-in-Ok-clause-err : goal.returns-in-Ok-clause-err
returns-in-Ok-clause-err c =
    map_err c.take-in-Ok.result _ _
    (λ m h wanted words parts s at.
    h wanted words parts
    (c.in-Ok.ensures.ok wanted words (Must c.args.kind ∷ parts)
    (has_option wanted words c.args.keyword c.args.kind parts (texts c.args.words.now) c.if-not-begins.ensures s))
    (omega (arith, at, c.in-Ok.ensures.less, length-map c.args.words.now (λ w. w.now), length-map c.in-Ok.rest.now (λ w. w.now))))
    c.take-in-Ok.ensures.err
