use Rattle.std.proofs.Common.{◌∷◌, refl, subst}
use Rattle.line_forms.specs.declared.verb.Part.TheVariants.{Must}
use Rattle.line_forms.specs.Stands.{Stands}
use Rattle.line_forms.proofs.Walk.{passes}
use Rattle.line_forms.proofs.misfit.take.Goals as goal

pub returns-clause-ok : goal.returns-clause-ok
returns-clause-ok c wanted words parts s =
    passes wanted words c.args.kind parts _ _ (c.if-not-has.ensures.0 refl)
    (subst (Stands wanted words (Must c.args.kind ∷ parts)) c.in-Some.ensures.some s)
