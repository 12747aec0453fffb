use Rattle.std.proofs.Common.{ap, ◌∙◌}
use Rattle.std.specs.Box.{with_value}
use Rattle.bind_buckets.specs.Bucket.{Bucket, called}
use Rattle.bind_buckets.specs.Turned.{View}
use Rattle.bind_buckets.proofs.TurnSteps.{asked_out, marked}
use Rattle.bind_buckets.proofs.turning.ask_one.Goals as goal

pub returns-clause-out : goal.returns-clause-out
returns-clause-out c =
    let b = c.args.turn.now.value.value in
    let n = c.draw-number.result in
    let caller = c.caller-caller.ensures ∙ ap (λ (v : View). v.caller) c.draw-number.ensures.view in
    let mark = c.mark.ensures ∙ (ap (λ (x : Bucket). marked x n c.caller-caller.result) c.deref_mut.ensures.value ∙ ap (marked b n) caller) in
    let after = c.carry_out.ensures.after ∙ ap (λ (x : Bucket). called x c.args.request) (c.deref_mut-2.ensures.value ∙ mark) in
    asked_out c.args.turns.now c.args.pass.now c.draw-number.new.pass c.args.turn.now c.args.request n (with_value (with_value c.args.turn.now.value c.mark.new.self) c.carry_out.new.self) c.requires.out c.draw-number.ensures.table c.draw-number.ensures.turn c.draw-number.ensures.view c.requires.may after
