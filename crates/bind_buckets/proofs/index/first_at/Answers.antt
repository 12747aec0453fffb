-- The earlier of the next places under either key is looked at.
use Rattle.std.proofs.Common.{sym, ◌∙◌}
use Rattle.bind_buckets.proofs.Searched.{far_after, search_ends, search_finds, search_goes_on, search_shortens}
use Rattle.bind_buckets.proofs.index.first_at.Goals as goal

pub step_over-far-requires : goal.step_over-far-requires
step_over-far-requires c =
    far_after c.args.asked.now c.args.but c.args.one c.args.other c.args.links.now.keys c.args.slots.now c.requires.keys c.requires.holds
    c.loop-place.near c.loop-place.far c.loop-place.invariant

pub loop-place-preserved : goal.loop-place-preserved
loop-place-preserved c =
    search_goes_on c.args.asked.now c.args.but c.args.one c.args.other c.args.links.now.keys c.args.slots.now c.requires.keys c.requires.holds
    c.loop-place.near c.loop-place.far c.loop-place.invariant c.in-Some.place (sym c.earlier.ensures ∙ c.in-Some.is) _ _
    (λ d. sym c.if-has_at.false ∙ c.has_at.ensures d) c.step_over-near.ensures c.step_over-far.ensures

pub loop-place-smaller : goal.loop-place-smaller
loop-place-smaller c =
    search_shortens c.args.asked.now c.args.but c.args.one c.args.other c.args.links.now.keys c.args.slots.now c.requires.keys c.requires.holds
    c.loop-place.near c.loop-place.far c.loop-place.invariant c.in-Some.place (sym c.earlier.ensures ∙ c.in-Some.is)
    c.step_over-near.result c.step_over-far.result c.step_over-near.ensures c.step_over-far.ensures

pub returns-then-has_at-clause-place : goal.returns-then-has_at-clause-place
returns-then-has_at-clause-place c =
    sym
    (search_finds c.args.asked.now c.args.but c.args.one c.args.other c.args.links.now.keys c.args.slots.now c.requires.keys c.requires.holds
    c.loop-place.near c.loop-place.far c.loop-place.invariant c.in-Some.place (sym c.earlier.ensures ∙ c.in-Some.is)
    (λ d. sym c.if-has_at.true ∙ c.has_at.ensures d))

pub returns-clause-place : goal.returns-clause-place
returns-clause-place c =
    sym
    (search_ends c.args.asked.now c.args.but c.args.one c.args.other c.args.links.now.keys c.args.slots.now c.requires.keys c.requires.holds
    c.loop-place.near c.loop-place.far c.loop-place.invariant (sym c.earlier.ensures ∙ c.in_default.is))
