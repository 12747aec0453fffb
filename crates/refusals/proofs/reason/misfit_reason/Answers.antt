use Rattle.std.proofs.Common.{◌∙◌, refl, sym}
use Rattle.sock_script.specs.Seen.{texts}
use Rattle.refusals.proofs.reason.misfit_reason.Goals as goal

pub returns-in-Some : goal.returns-in-Some
returns-in-Some c = λ mode lines.
    (texts c.args.rest.now, c.args.misfit, refl, c.requires.misfit, sym c.untimely.ensures ∙ c.in-Some.is, c.requires.formless)

pub returns-in-None : goal.returns-in-None
returns-in-None c = λ mode lines.
    (texts c.args.rest.now, refl, c.requires.misfit, sym c.untimely.ensures ∙ c.in-None.is, c.requires.formless)
