use Rattle.std.proofs.Common.{◌++◌, ℕ, Option, refl, sym, subst, append-nil}
use Rattle.turn_table.specs.Passes.{known}
use Rattle.bind_buckets.specs.declared.request.Answer.TheVariants as answers
use Rattle.bind_buckets.specs.Answers.{answer_of_name}
use Rattle.bind_buckets.specs.Bucket.{entries_of}
use Rattle.bind_buckets.specs.Turned.{made}
use Rattle.sock_ops.specs.Goes.{AskedAll, gone_of}
use Rattle.sock_ops.proofs.Goes.{asked_all}
use Rattle.sock_ops.proofs.connecting.end_turn.Goals as goal

pub returns-in-None-clause-gave : goal.returns-in-None-clause-gave
returns-in-None-clause-gave c = λ v within.
    let es = entries_of (made c.args.pass.now c.args.turn) in (
      answers.Done,
      subst (λ (o : Option ℕ). AskedAll c.args.turn.place (es ++ gone_of o answers.Done) v (known c.give.new.pass)) (sym c.in-None.is)
          (asked_all c.args.turn.place c.args.turn.place _ v (known c.give.new.pass) (made c.args.pass.now c.args.turn) refl (sym (append-nil es)) (c.give.ensures.gave v within)),
    )

pub returns-in-Some-clause-gave : goal.returns-in-Some-clause-gave
returns-in-Some-clause-gave c = λ v within.
    let es = entries_of (made c.args.pass.now c.args.turn) in
    let asks = c.remove_waiting-gone.ensures.asks in
    let answer = answer_of_name c.remove_waiting-gone.result in (
      answer,
      subst (λ (o : Option ℕ). AskedAll c.args.turn.place (es ++ gone_of o answer) v (known c.give-in-Some.new.pass)) (sym c.in-Some.is)
          (asked_all c.remove_waiting-gone.new.turn.place c.args.turn.place _ v (known c.give-in-Some.new.pass) (made c.remove_waiting-gone.new.pass c.remove_waiting-gone.new.turn) asks.place asks.made_is
          (c.give-in-Some.ensures.gave v (asks.within v within))),
    )
