use Rattle.std.proofs.Common.{◌≡◌, sym, ◌∙◌, position, Some, None, true}
use Rattle.std.proofs.lemmas.Bool.{true≢false}
use Rattle.bind_buckets.specs.Members.{is_named, has_member}
use Rattle.bind_buckets.proofs.WithoutMember.{leaves_at}
use Rattle.bind_buckets.proofs.FirstPlace.{none_passes}
use Rattle.bind_buckets.proofs.group.Group.leave.Goals as goal

pub returns-in-Some : goal.returns-in-Some
returns-in-Some c =
    let place : position (is_named c.args.name) c.self.inside.members.items ≡ Some c.in-Some.place =
    rw (← c.as_slice.ensures.value) (sym c.place_of.ensures ∙ c.in-Some.is) in
    rw (c.swap_remove.ensures.items, ← c.self.view_is)
    (leaves_at c.args.name _ _ _ place c.swap_remove.ensures.value)

pub returns-in_default : goal.returns-in_default
returns-in_default c =
    let none : position (is_named c.args.name) c.self.inside.members.items ≡ None =
    rw (← c.as_slice.ensures.value) (sym c.place_of.ensures ∙ c.in_default.is) in
    let member : has_member c.args.name c.self.inside.members.items ≡ true = rw c.self.view_is c.requires in
    absurd (true≢false (sym member ∙ none_passes (is_named c.args.name) c.self.inside.members.items none))
