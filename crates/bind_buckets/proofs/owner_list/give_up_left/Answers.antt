use Rattle.std.proofs.Common.{rules}
use Rattle.std.proofs.lemmas.List.Elements.{filter_from_retain}
use Rattle.bind_buckets.specs.declared.slot.Slot.{Slot}
use Rattle.bind_buckets.proofs.owner_list.give_up_left.Goals as goal

pub returns-clause-items : goal.returns-clause-items
returns-clause-items c =
    filter_from_retain _ (λ (s : Slot). s.here) (λ p x b q called. search rules) _ _ _ c.retain.ensures.filtered
