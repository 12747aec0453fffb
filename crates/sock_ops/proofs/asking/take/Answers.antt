use Rattle.std.proofs.Common.{subst, ap, ◌∙◌, ◌%◌}
use Rattle.sock_card.specs.Conflict.{owner_key}
use Rattle.turn_table.specs.Passes as words
use Rattle.turn_table.specs.Passes.{known}
use Rattle.bind_buckets.specs.Bucket.{IsSound}
use Rattle.sock_ops.proofs.There.{there_now}
use Rattle.sock_ops.proofs.asking.take.Goals as goal

pub returns-clause-there : goal.returns-clause-there
returns-clause-there g c =
    let a = c.args.owner.now in
    there_now c.args.buckets.now c.take.new.pass c.in_ok-turn.turn a (owner_key a % words.places c.args.buckets.now) (known c.args.pass.now) c.in_ok-turn.ensures.out
    (subst IsSound c.deref.ensures c.recall.ensures) c.in_ok-turn.ensures.none (c.in_ok-turn.ensures.place ∙ ap (λ k. k % words.places c.args.buckets.now) c.bind_key.ensures) c.in_ok-turn.ensures.within c.requires.stands
