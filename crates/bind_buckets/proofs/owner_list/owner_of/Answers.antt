use Rattle.std.proofs.Common.{sym, ◌∙◌}
use Rattle.bind_buckets.proofs.Beside.{found_beside, none_beside}
use Rattle.bind_buckets.proofs.owner_list.owner_of.Goals as goal

pub returns-in_err-place : goal.returns-in_err-place
returns-in_err-place c =
    c.from_residual.ensures ∙ sym (none_beside c.args.asked c.args.but c.args.slots.now (sym c.first.ensures.place ∙ c.in_err-place.was))

pub returns : goal.returns
returns c = sym (found_beside c.args.asked c.args.but c.args.slots.now c.in_ok-place.place _ (sym c.in_ok-place.ensures.place))
