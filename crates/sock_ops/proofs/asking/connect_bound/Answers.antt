use Rattle.std.proofs.Common.{subst, sym, IfSome}
use Rattle.sock_card.specs.declared.owner.State.TheVariants as states
use Rattle.bind_buckets.specs.declared.request.Request.TheVariants as requests
use Rattle.bind_buckets.specs.Bucket.{StandsAt}
use Rattle.bind_buckets.specs.Turned.{Asks}
use Rattle.sock_ops.proofs.There.{is_done}
use Rattle.sock_ops.proofs.asking.connect_bound.Goals as goal

pub connect_bound-known-requires-clause-bound : goal.connect_bound-known-requires-clause-bound
connect_bound-known-requires-clause-bound c =
    subst (λ o. IfSome o (StandsAt states.Bound c.args.full.now.addr)) (sym c.requires.there) (record { state = c.requires.bound; addr = c.requires.addr })

pub returns-clause-asks : goal.returns-clause-asks
returns-clause-asks c =
    let a = c.args.owner.now in
    let f = c.args.full.now in
    let k = c.connect_bound-known in
    subst (Asks c.args.buckets.now c.args.pass.now c.args.turn.now k.new.pass k.new.turn (requests.ConnectBound a.name f.addr f.remote f.rport))
    (is_done a.name c.args.turn.now.value.value.held.owners a k.result c.requires.there k.ensures.strange) k.ensures.asks
