use Rattle.std.proofs.Common.{ap, sym, ◌∙◌}
use Rattle.std.proofs.lemmas.List.{get_or_default}
use Rattle.bind_buckets.specs.Slots.{has}
use Rattle.bind_buckets.proofs.LeftOut.{beside_elsewhere, beside_there, is_other_place, is_that_place}
use Rattle.bind_buckets.proofs.index.has_at.Goals as goal

pub returns-then-ne : goal.returns-then-ne
returns-then-ne c = λ d.
    c.has.ensures
    ∙ ap (has c.args.asked.now)
    (get_or_default c.args.slots.now c.args.place _ d c.requires
    ∙ sym (beside_elsewhere c.args.but c.args.place c.args.slots.now d (is_other_place c.args.but c.args.place c.if-ne.ensures)))

pub returns-else-ne : goal.returns-else-ne
returns-else-ne c = λ d.
    c.if-ne.false
    ∙ sym (beside_there c.args.asked.now c.args.but c.args.place c.args.slots.now d (is_that_place c.args.but c.args.place c.if-ne.ensures) c.requires)
