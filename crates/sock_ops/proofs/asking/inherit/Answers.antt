use Rattle.std.proofs.Common.{subst, sym, IfSome}
use Rattle.sock_card.specs.declared.owner.State.TheVariants as states
use Rattle.bind_buckets.specs.declared.request.Request.TheVariants as requests
use Rattle.bind_buckets.specs.Bucket.{StandsAt}
use Rattle.bind_buckets.specs.Turned.{Asks}
use Rattle.sock_ops.proofs.There.{is_done}
use Rattle.sock_ops.proofs.asking.inherit.Goals as goal

pub inherit-known-requires-clause-listening : goal.inherit-known-requires-clause-listening
inherit-known-requires-clause-listening c =
    subst (λ o. IfSome o (StandsAt states.Listening c.args.child.now.addr)) (sym c.requires.there) (record { state = c.requires.listening; addr = c.requires.addr })

pub returns-clause-asks : goal.returns-clause-asks
returns-clause-asks c =
    let a = c.args.listener.now in
    let f = c.args.child.now in
    let k = c.inherit-known in
    subst (Asks c.args.buckets.now c.args.pass.now c.args.turn.now k.new.pass k.new.turn (requests.Inherit a.name f.name f.mark f.addr f.remote f.rport))
    (is_done a.name c.args.turn.now.value.value.held.owners a k.result c.requires.there k.ensures.strange) k.ensures.asks
