use Rattle.std.proofs.Common.{ap, sym}
use Rattle.refusals.specs.Texts.{misfit_text}
use Rattle.refusals.proofs.Joined.{then_ok, behind, named}
use Rattle.refusals.proofs.text.put_misfit.Goals as goal

pub returns-in_ok-put_place-in-Missing : goal.returns-in_ok-put_place-in-Missing
unfolding misfit_text
returns-in_ok-put_place-in-Missing c =
    then_ok c.put_kind-in-Missing.result c.put_kind-in-Missing.ensures
    (λ last. named _ _ _ _ (behind _ _ _ _ _ c.in_ok-put_place-in-Missing.ensures last) (ap misfit_text (sym c.in-Missing.is)))
