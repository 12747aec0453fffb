use Rattle.std.proofs.Common.{ℕ, List, inl, ap, subst, ◌∙◌}
use Rattle.picture.specs.Written.{IsOutcome, outcome_status}
use Rattle.picture.proofs.Outcomes.{one_outcome}
use Rattle.picture.proofs.Told.{told}
use Rattle.picture.proofs.serve.serve.Goals as goal

pub returns-clause-complete : goal.returns-clause-complete
returns-clause-complete g c =
    let bytes : List ℕ = c.in-Ok.bytes.items in
    let mine : IsOutcome bytes c.in-Ok-outcome_of.outcome c.in-Ok-outcome_of.text.items =
    subst (λ (b : List ℕ). IsOutcome b c.in-Ok-outcome_of.outcome c.in-Ok-outcome_of.text.items) c.deref.ensures.value c.in-Ok-outcome_of.ensures in
    told _ _ _ bytes c.in-Ok.ensures.whole
    (λ outcome text within is read written. inl (c.status_of.ensures.status ∙ ap outcome_status (one_outcome bytes _ text _ outcome mine is)))
