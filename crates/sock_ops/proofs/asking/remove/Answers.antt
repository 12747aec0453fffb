use Rattle.std.proofs.Common.{◌≡◌, ℕ, Ok, Err, Result, subst}
use Rattle.bind_buckets.specs.declared.request.Request.TheVariants as requests
use Rattle.bind_buckets.specs.declared.request.Answer.TheVariants as answers
use Rattle.bind_buckets.specs.declared.request.Strange.{Strange}
use Rattle.bind_buckets.specs.Answers.{answer_of_name, TakesIfErr}
use Rattle.bind_buckets.specs.Turned.{Asks}
use Rattle.sock_ops.proofs.There.{is_done}
use Rattle.sock_ops.proofs.asking.remove.Goals as goal

takes_none : (r : Result (Unit {0}) Strange) (old new : ℕ) → answer_of_name r ≡ answers.Done → TakesIfErr r old new → new ≡ old
takes_none (Ok done) old new is takes = takes
takes_none (Err end) old new is takes = absurd (cc)

pub remove-known-requires-clause-entry : goal.remove-known-requires-clause-entry
remove-known-requires-clause-entry c = λ none. absurd (let there = c.requires.there in cc)

pub returns-clause-asks : goal.returns-clause-asks
returns-clause-asks c =
    let a = c.args.owner.now in
    let k = c.remove-known in
    subst (Asks c.args.buckets.now c.args.pass.now c.args.turn.now k.new.pass k.new.turn (requests.Remove a.name))
    (is_done a.name c.args.turn.now.value.value.held.owners a k.result c.requires.there k.ensures.strange) k.ensures.asks

pub returns-clause-entries : goal.returns-clause-entries
returns-clause-entries c =
    let a = c.args.owner.now in
    let k = c.remove-known in
    takes_none k.result c.args.turn.now.value.value.entries k.new.turn.value.value.entries
    (is_done a.name c.args.turn.now.value.value.held.owners a k.result c.requires.there k.ensures.strange) k.ensures.entries
