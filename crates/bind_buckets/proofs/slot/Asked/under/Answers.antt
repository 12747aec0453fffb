use Rattle.std.proofs.Common.{ap, sym, ◌∙◌}
use Rattle.std.proofs.lemmas.Bool.{and_parts}
use Rattle.sock_card.specs.Conflict.{refuses}
use Rattle.bind_buckets.specs.declared.slot.Asked.{Asked}
use Rattle.bind_buckets.specs.Slots.{has}
use Rattle.bind_buckets.proofs.WantedBy.{overlaps_if_refused}
use Rattle.bind_buckets.proofs.slot.Asked.under.Goals as goal

pub returns-in-Refuses : goal.returns-in-Refuses
returns-in-Refuses c = λ s h.
    let a = c.in-Refuses.newcomer in
    let there = ap (λ (asked : Asked). has asked s) (sym c.in-Refuses.is) ∙ h in
    c.wanted_by.ensures s (overlaps_if_refused a s.owner (and_parts s.here (refuses a s.owner) there).1)
