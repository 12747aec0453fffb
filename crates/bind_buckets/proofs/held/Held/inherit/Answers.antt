use Rattle.std.proofs.Common.{sym, ◌∙◌, ap}
use Rattle.bind_buckets.specs.HeldBy.{held_by}
use Rattle.bind_buckets.specs.OwnerStep.{with_owner}
use Rattle.bind_buckets.proofs.Named.{speaks_of, speaks_of_none}
use Rattle.bind_buckets.proofs.held.Held.inherit.Goals as goal

pub returns-in-None-clause-step : goal.returns-in-None-clause-step
returns-in-None-clause-step c = speaks_of_none _ c.args.parent _ (sym c.named.ensures ∙ sym c.copied.ensures ∙ c.in-None.is)

pub returns-in-Some-clause-step : goal.returns-in-Some-clause-step
returns-in-Some-clause-step c =
    let h = held_by c.args.self.now in
    speaks_of h c.args.parent _ c.in-Some.listener (sym c.named.ensures ∙ sym c.copied.ensures ∙ c.in-Some.is)
    ∙ ap (with_owner h) (sym c.child.ensures) ∙ c.admit.ensures.step
