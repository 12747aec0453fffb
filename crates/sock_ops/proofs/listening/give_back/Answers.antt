use Rattle.std.proofs.Common.{◌++◌, refl, sym, subst, append-nil}
use Rattle.turn_table.specs.Passes.{known}
use Rattle.bind_buckets.specs.Bucket.{entries_of}
use Rattle.bind_buckets.specs.Turned.{made}
use Rattle.sock_ops.specs.Goes.{AskedAll, gone_if}
use Rattle.sock_ops.proofs.Goes.{asked_all}
use Rattle.sock_ops.specs.Groups.{GaveBack}
use Rattle.sock_ops.proofs.ListTurns.{leaves_as}
use Rattle.sock_ops.proofs.listening.give_back.Goals as goal

pub returns-then-took-clause-gave : goal.returns-then-took-clause-gave
returns-then-took-clause-gave c = λ v within.
    let asks = c.leave-unlisted.ensures.asks in
    let es = entries_of (made c.args.pass.now c.args.turn) in
    subst (λ b. AskedAll c.args.turn.place (es ++ gone_if b c.args.owner.now) v (known c.give.new.pass)) (sym c.if-took.true)
    (asked_all c.leave-unlisted.new.turn.place c.args.turn.place _ v (known c.give.new.pass) (made c.leave-unlisted.new.pass c.leave-unlisted.new.turn) asks.place asks.made_is (c.give.ensures.gave v (asks.within v within)))

pub returns-else-took-clause-gave : goal.returns-else-took-clause-gave
returns-else-took-clause-gave c = λ v within.
    let es = entries_of (made c.args.pass.now c.args.turn) in
    subst (λ b. AskedAll c.args.turn.place (es ++ gone_if b c.args.owner.now) v (known c.give-else-took.new.pass)) (sym c.if-took.false)
    (asked_all c.args.turn.place c.args.turn.place _ v (known c.give-else-took.new.pass) (made c.args.pass.now c.args.turn) refl (sym (append-nil es)) (c.give-else-took.ensures.gave v within))

pub returns-then-took-clause-lists : goal.returns-then-took-clause-lists
returns-then-took-clause-lists c = λ v within.
    let a = c.args.owner.now in
    let w = known c.give.new.pass in
    let p = c.args.passes.now in
    let q = c.leave-unlisted.new.passes in
    let e = c.leave-unlisted.ensures in
    subst (λ b. GaveBack b c.args.turn.place a w p q) (sym c.if-took.true)
    (leaves_as c.args.tables.now.buckets c.args.pass.now c.args.turn c.leave-unlisted.new.pass c.leave-unlisted.new.turn a v w e.lists.0 p q e.sound.0 e.sound.1 c.requires.out e.asks
    (e.asks.within v within) (c.give.ensures.gave v (e.asks.within v within)) e.lists.1)

pub returns-else-took-clause-lists : goal.returns-else-took-clause-lists
returns-else-took-clause-lists c = λ v within.
    let p = c.args.passes.now in
    subst (λ b. GaveBack b c.args.turn.place c.args.owner.now (known c.give-else-took.new.pass) p p) (sym c.if-took.false) refl
