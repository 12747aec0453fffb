use Rattle.std.proofs.Common.{subst}
use Rattle.bind_buckets.specs.declared.request.Request.TheVariants as requests
use Rattle.bind_buckets.specs.Turned.{Asks}
use Rattle.sock_ops.proofs.There.{is_done}
use Rattle.sock_ops.proofs.asking.to_time_wait.Goals as goal

pub returns-clause-asks : goal.returns-clause-asks
returns-clause-asks c =
    let a = c.args.owner.now in
    let k = c.to_time_wait-known in
    subst (Asks c.args.buckets.now c.args.pass.now c.args.turn.now k.new.pass k.new.turn (requests.ToTimeWait a.name))
    (is_done a.name c.args.turn.now.value.value.held.owners a k.result c.requires.there k.ensures.strange) k.ensures.asks
