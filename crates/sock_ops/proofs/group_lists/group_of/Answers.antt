use Rattle.std.proofs.Common.{◌≡◌, ◌+◌, ◌*◌, ◌%◌, ◌<◌, sym, ap, subst, ◌∙◌, arith}
use mathlib.Core.Logic.{dite}
use native.Mathlib.Decide.{ℕ_discrete}
use Rattle.bind_buckets.specs.Members.{has_member}
use Rattle.bind_buckets.specs.OwnerStep.{members_at}
use Rattle.sock_ops.proofs.group_lists.group_of.Goals as goal

pub returns-then-has_name : goal.returns-then-has_name
returns-then-has_name c =
    let low = c.loop-place-test.true in
    let at : (8 * c.args.turn.now.place + c.loop-place.place) % 8 ≡ c.loop-place.place = omega arith in (
      omega arith,
      sym c.has_name.ensures ∙ c.if-has_name.true,
      λ place below. c.loop-place.invariant place (subst (λ n. place < n) at below),
    )

pub loop-place-preserved : goal.loop-place-preserved
loop-place-preserved c = λ place below.
    let low = c.loop-place-test.true in
    let at : (8 * c.args.turn.now.place + c.loop-place.place) % 8 ≡ c.loop-place.place = omega arith in
    let h = c.args.turn.now.value.value.held in
    dite (ℕ_discrete place c.loop-place.place)
    (λ same. ap (λ n. has_member c.args.name (members_at h n)) (same ∙ sym at) ∙ sym c.has_name.ensures ∙ c.if-has_name.false)
    (λ other. c.loop-place.invariant place (omega arith))
