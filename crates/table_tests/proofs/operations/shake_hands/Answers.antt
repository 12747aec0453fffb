use Rattle.std.proofs.Common.{◌≡◌, ◌+◌, ◌==◌, ℕ, false, sym, ap, subst, arith}
use Rattle.flat_list.specs.declared.command.End.{End}
use Rattle.table_model.specs.Operations as plans
use Rattle.sock_ops.specs.Socks.{mine_of}
use Rattle.sock_ops.specs.Stands.{MayDraw, buckets_of, chained, turned}
use Rattle.table_tests.proofs.Others.{AllMiss, listen_never, missed_new, still_missed, syn_never}
use Rattle.table_tests.proofs.operations.shake_hands.Goals as goal

pub syn-requires-clause-draws : goal.syn-requires-clause-draws
syn-requires-clause-draws g c =
    let all = c.requires.draws in
    let some : MayDraw (4 + 2) c.args.worker.now = omega arith in
    c.listen.ensures.drawn 4 some

pub ack-requires-clause-draws : goal.ack-requires-clause-draws
ack-requires-clause-draws g c =
    let all = c.requires.draws in
    let some : MayDraw (8 + 2) c.args.worker.now = omega arith in
    let more : MayDraw (4 + 4) c.listen.new.worker = c.listen.ensures.drawn 8 some in
    c.syn.ensures.drawn 4 more

pub ack-requires-clause-new : goal.ack-requires-clause-new
ack-requires-clause-new g c =
    let t = c.args.tables.now in
    let n = buckets_of t in
    let l = t.chains.layout in
    let u = c.args.worker.now in
    let v = c.listen.new.worker in
    let w = c.syn.new.worker in
    let s = c.args.socket in
    let listening = mine_of c.in-Ok.listener in
    let from : End = record { addr = 0x0A000003; port = 1000 } in
    let at : End = record { addr = 0x0A000002; port = c.in-Ok.port } in
    let other : ((mine_of s).owner.name == 3) ≡ false = ap (λ (k : ℕ). k == 3) c.requires.name in
    let none : AllMiss 3 (turned u).mine = subst (AllMiss 3) (sym c.requires.untold) tt in
    let listened : AllMiss 3 (turned v).mine =
    still_missed 3 n (plans.listen l.shape l.seed (mine_of s) c.ports.result) _ (turned u) (turned v) (chained t u) (chained t v) c.in-Ok.ensures.carried (listen_never l.shape l.seed 3 (mine_of s) other c.ports.result) none in
    missed_new 3 (turned w)
    (still_missed 3 n (plans.syn l.shape l.seed listening 2 0 from at) _ (turned v) (turned w) (chained t v) (chained t w) c.in-Ok-syn.ensures.carried (syn_never l.shape l.seed 3 listening 2 0 from at) listened)

pub close-requires-clause-draws : goal.close-requires-clause-draws
close-requires-clause-draws g c =
    let all = c.requires.draws in
    let some : MayDraw (12 + 2) c.args.worker.now = omega arith in
    let more : MayDraw (8 + 4) c.listen.new.worker = c.listen.ensures.drawn 12 some in
    let then_ : MayDraw (4 + 4) c.syn.new.worker = c.syn.ensures.drawn 8 more in
    c.ack.ensures.drawn 4 then_

pub drop_sock-requires-clause-draws : goal.drop_sock-requires-clause-draws
drop_sock-requires-clause-draws g c =
    let all = c.requires.draws in
    let some : MayDraw (10 + 2) c.args.worker.now = omega arith in
    let more : MayDraw (6 + 4) c.listen.new.worker = c.listen.ensures.drawn 10 some in
    let then_ : MayDraw (2 + 4) c.syn.new.worker = c.syn.ensures.drawn 6 more in
    c.ack.ensures.drawn 2 then_
