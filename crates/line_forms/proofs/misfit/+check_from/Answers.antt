use Rattle.std.proofs.Common.{List, subst, arith}
use Rattle.std.proofs.lemmas.List.{length-map}
use Rattle.line_forms.specs.Seen.{texts}
use Rattle.line_forms.specs.declared.verb.Part.{Part}
use Rattle.line_forms.specs.Stands.{Stands}
use Rattle.line_forms.proofs.Walk.{map_err, map_ok}
use Rattle.line_forms.proofs.misfit.+check_from.Goals as goal

pub returns-in-Err-clause-err : goal.returns-in-Err-clause-err
returns-in-Err-clause-err t c wanted words s at =
    c.in-Err.ensures.err wanted words c.in-Some.behind.now
    (subst (λ (ps : List Part). Stands wanted words ps (texts c.args.words.now)) c.in-Some.ensures.some s) at

pub returns-in-Ok-clause-ok : goal.returns-in-Ok-clause-ok
returns-in-Ok-clause-ok t c =
    map_ok c.check_from.result _ _
    (λ h wanted words s.
    h wanted words
    (c.in-Ok.ensures.ok wanted words c.in-Some.behind.now
    (subst (λ (ps : List Part). Stands wanted words ps (texts c.args.words.now)) c.in-Some.ensures.some s)))
    c.check_from.ensures.ok

pub returns-in-Ok-clause-err : goal.returns-in-Ok-clause-err
returns-in-Ok-clause-err t c =
    map_err c.check_from.result _ _
    (λ m h wanted words s at.
    h wanted words
    (c.in-Ok.ensures.ok wanted words c.in-Some.behind.now
    (subst (λ (ps : List Part). Stands wanted words ps (texts c.args.words.now)) c.in-Some.ensures.some s))
    (omega (arith, at, c.in-Ok.ensures.less, length-map c.args.words.now (λ w. w.now), length-map c.in-Ok.rest.now (λ w. w.now))))
    c.check_from.ensures.err
