use Rattle.std.proofs.Common.{◌≡◌, sym, ap, ◌∙◌, position, Some}
use Rattle.std.proofs.Math.ListN.{set}
use Rattle.bind_buckets.specs.Members.{has_member, without_member}
use Rattle.bind_buckets.proofs.FirstPlace.{changes_at, passes_at, unchanged}
use Rattle.bind_buckets.proofs.held.Held.leave.Goals as goal

pub leave-requires : goal.leave-requires
leave-requires c =
    let place : position (has_member c.args.name) c.args.self.now.groups ≡ Some c.in-Some.place = sym c.group_place.ensures.place ∙ c.in-Some.is in
    rw (← c.index-self-place.is) (passes_at (has_member c.args.name) _ c.in-Some.place _ place c.index-self-place.is)

pub returns-in-Some-clause-groups : goal.returns-in-Some-clause-groups
returns-in-Some-clause-groups c =
    let groups = c.args.self.now.groups in
    let place : position (has_member c.args.name) groups ≡ Some c.in-Some.place = sym c.group_place.ensures.place ∙ c.in-Some.is in
    sym (changes_at (has_member c.args.name) (without_member c.args.name) groups c.in-Some.place c.index-self-place.result place c.index-self-place.is
    ∙ ap (set groups c.in-Some.place) (ap (without_member c.args.name) c.index-self-place.is ∙ sym c.leave.ensures))

pub returns-in_default-clause-groups : goal.returns-in_default-clause-groups
returns-in_default-clause-groups c =
    sym (unchanged (has_member c.args.name) (without_member c.args.name) _ (sym c.group_place.ensures.place ∙ c.in_default.is))
