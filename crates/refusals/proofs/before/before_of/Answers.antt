use Rattle.std.proofs.Common.{[], ℕ, List, ◌+◌, ◌<◌, length, arith, ◌∙◌, ap}
use Rattle.std.proofs.lemmas.List.{length-map, get_or-map}
use Rattle.sock_script.specs.Seen.{texts}
use Rattle.refusals.specs.Before.{noted}
use Rattle.refusals.proofs.Steps.{before_more}
use Rattle.refusals.proofs.before.before_of.Goals as goal

pub loop-i-preserved : goal.loop-i-preserved
loop-i-preserved c =
    let lt : c.loop-i.i < length (texts c.args.lines.now) = omega (arith, length-map c.args.lines.now (λ w. w.now), c.loop-i-test.true) in
    before_more c.args.verb c.args.label.now (texts c.args.lines.now) c.loop-i.i lt _
    (get_or-map (λ w. w.now) c.args.lines.now c.loop-i.i _ [] c.loop-i-test.true) _ _ _
    (c.noted-before.ensures ∙ ap (λ (ws : List (List ℕ)). noted c.args.verb c.args.label.now (c.loop-i.i + 1) ws c.loop-i.before)
    (ap texts c.deref.ensures.value ∙ c.in_ok-words.ensures)) c.loop-i.invariant
