use Rattle.std.proofs.Common.{refl, sym, subst, ◌++◌, ◌∷◌, [], List, ap, ◌∙◌, ◌%◌}
use Rattle.sock_card.specs.Conflict.{owner_key}
use Rattle.turn_table.specs.Passes as words
use Rattle.turn_table.specs.Passes.{known}
use Rattle.bind_buckets.specs.Notes.{Note}
use Rattle.bind_buckets.specs.Bucket.{entries_of}
use Rattle.bind_buckets.specs.Turned.{View, Gave, made}
use Rattle.port_search.proofs.TurnSearch.{gave_none}
use Rattle.sock_ops.specs.Closes.{leave_entry}
use Rattle.sock_ops.proofs.Goes.{asked_all}
use Rattle.sock_ops.proofs.CloseGoes.{none_listed}
use Rattle.reuseport_group.specs.Passes as lists
use Rattle.sock_ops.specs.Groups.{LeavesAs}
use Rattle.sock_ops.proofs.ListTurns.{leaves_as, left_keeps}
use Rattle.sock_ops.proofs.leaving.leave_port.Goals as goal

pub returns-in_default-clause-listed : goal.returns-in_default-clause-listed
returns-in_default-clause-listed g c =
    let v = known c.args.pass.now in
    let p = c.args.passes.now in
    none_listed (lists.groups c.args.tables.now.groups) v (known c.take.new.pass) p p refl (subst (λ (w : View). Gave v w []) (sym c.in_default.ensures.same) (gave_none v))

pub returns-clause-gave : goal.returns-clause-gave
returns-clause-gave g c =
    let a = c.args.owner.now in
    let v = known c.args.pass.now in
    let asks = c.leave-unlisted.ensures.asks in
    let o = c.in-Some.ensures in
    let once = asks.made_is ∙ ap (λ (ms : List Note). entries_of ms ++ leave_entry a ∷ []) o.none in
    asked_all c.leave-unlisted.new.turn.place (owner_key a % words.places c.args.tables.now.buckets) (leave_entry a ∷ []) v (known c.give.new.pass) (made c.leave-unlisted.new.pass c.leave-unlisted.new.turn) (asks.place ∙ o.place) once (c.give.ensures.gave v (asks.within v o.within))

pub returns-clause-lists : goal.returns-clause-lists
returns-clause-lists g c =
    let a = c.args.owner.now in
    let v = known c.args.pass.now in
    let w = known c.give.new.pass in
    let p = c.args.passes.now in
    let q = c.leave-unlisted.new.passes in
    let e = c.leave-unlisted.ensures in
    let o = c.in-Some.ensures in
    let within = e.asks.within v o.within in
    subst (λ i. LeavesAs i a w p q) o.place
    (leaves_as c.args.tables.now.buckets c.take.new.pass c.in-Some.turn c.leave-unlisted.new.pass c.leave-unlisted.new.turn a v w e.lists.0 p q e.sound.0 e.sound.1 o.out e.asks
    within (c.give.ensures.gave v within) e.lists.1)

pub returns-clause-listed : goal.returns-clause-listed
returns-clause-listed g c =
    let a = c.args.owner.now in
    let v = known c.args.pass.now in
    let w = known c.give.new.pass in
    let p = c.args.passes.now in
    let q = c.leave-unlisted.new.passes in
    let e = c.leave-unlisted.ensures in
    let o = c.in-Some.ensures in
    let place = owner_key a % words.places c.args.tables.now.buckets in
    let once = e.asks.made_is ∙ ap (λ (ms : List Note). entries_of ms ++ leave_entry a ∷ []) o.none in
    let within = e.asks.within v o.within in
    left_keeps (lists.groups c.args.tables.now.groups) place a v w p q
    (asked_all c.leave-unlisted.new.turn.place place (leave_entry a ∷ []) v w (made c.leave-unlisted.new.pass c.leave-unlisted.new.turn) (e.asks.place ∙ o.place) once (c.give.ensures.gave v within))
    (subst (λ i. LeavesAs i a w p q) o.place
    (leaves_as c.args.tables.now.buckets c.take.new.pass c.in-Some.turn c.leave-unlisted.new.pass c.leave-unlisted.new.turn a v w e.lists.0 p q e.sound.0 e.sound.1 o.out e.asks
    within (c.give.ensures.gave v within) e.lists.1))
