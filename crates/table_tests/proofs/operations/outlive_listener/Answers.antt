use Rattle.std.proofs.Common.{◌≡◌, ◌+◌, ◌==◌, ℕ, Ok, false, sym, ap, subst, ◌∙◌, arith}
use Rattle.sock_card.specs.declared.owner.Owner.{Owner}
use Rattle.bind_buckets.specs.Callers.{MayName}
use Rattle.table_rule.specs.Calls.{HasShares}
use Rattle.table_rule.specs.Passes.{known}
use Rattle.sock_ops.specs.declared.chains.table.ChainPass.{ChainPass}
use Rattle.flat_list.specs.declared.command.End.{End}
use Rattle.table_model.specs.Own.{Mine}
use Rattle.table_model.specs.Operations as plans
use Rattle.sock_ops.specs.declared.sock.Sock.TheVariants as socks
use Rattle.sock_ops.specs.Socks.{mine_of}
use Rattle.sock_ops.specs.Stands.{IsAway, MayDraw, buckets_of, chained, turned}
use Rattle.sock_ops.proofs.BindStands.{bind_stands}
use Rattle.sock_ops.proofs.Knows.{new_away}
use Rattle.table_tests.proofs.Others.{AllMiss, drop_never, listen_never, missed_new, still_missed, syn_never}
use Rattle.table_tests.proofs.operations.outlive_listener.Goals as goal

pub syn-requires-clause-draws : goal.syn-requires-clause-draws
syn-requires-clause-draws g c =
    let all = c.requires.draws in
    let some : MayDraw (4 + 2) c.args.worker.now = omega arith in
    c.listen.ensures.drawn 4 some

pub drop_sock-requires-clause-draws : goal.drop_sock-requires-clause-draws
drop_sock-requires-clause-draws g c =
    let all = c.requires.draws in
    let some : MayDraw (6 + 2) c.args.worker.now = omega arith in
    let more : MayDraw (2 + 4) c.listen.new.worker = c.listen.ensures.drawn 6 some in
    c.syn.ensures.drawn 2 more

pub connect-requires-clause-stands : goal.connect-requires-clause-stands
connect-requires-clause-stands g c =
    let t = c.args.tables.now in
    let n = buckets_of t in
    let l = t.chains.layout in
    let u = c.args.worker.now in
    let v = c.listen.new.worker in
    let w = c.syn.new.worker in
    let x = c.drop_sock.new.worker in
    let s = c.args.socket in
    let listening = mine_of c.in-Ok.listener in
    let from : End = record { addr = 0x0A000003; port = 1000 } in
    let at : End = record { addr = 0x0A000002; port = c.in-Ok.port } in
    let other : ((mine_of s).owner.name == 3) ≡ false = ap (λ (k : ℕ). k == 3) c.requires.name in
    let listener : (listening.owner.name == 3) ≡ false = ap (λ (k : ℕ). k == 3) (sym (ap (λ (o : Owner). o.name) c.owner.ensures.owner) ∙ c.if-owner-ne1.false) in
    let none : AllMiss 3 (turned u).mine = subst (AllMiss 3) (sym c.requires.untold) tt in
    let listened : AllMiss 3 (turned v).mine =
    still_missed 3 n (plans.listen l.shape l.seed (mine_of s) c.ports.result) _ (turned u) (turned v) (chained t u) (chained t v) c.in-Ok.ensures.carried (listen_never l.shape l.seed 3 (mine_of s) other c.ports.result) none in
    let called : AllMiss 3 (turned w).mine =
    still_missed 3 n (plans.syn l.shape l.seed listening 2 0 from at) _ (turned v) (turned w) (chained t v) (chained t w) c.in-Ok-syn.ensures.carried (syn_never l.shape l.seed 3 listening 2 0 from at) listened in
    let dropped : AllMiss 3 (turned x).mine =
    still_missed 3 n (plans.drop listening plans.gone) _ (turned w) (turned x) (chained t w) (chained t x) c.in-Ok-drop_sock.ensures.carried (drop_never l.shape l.seed 3 listening listener plans.gone) called in
    let may : MayName (turned x).caller 3 = λ some. absurd (some (c.drop_sock.ensures.caller ∙ c.syn.ensures.caller ∙ c.listen.ensures.caller ∙ c.requires.first)) in
    let m = c.new.result in
    let b = c.bind.new.worker in
    let away : IsAway m.owner.name (turned x) = subst (λ (name : ℕ). IsAway name (turned x)) (sym (ap (λ (m : Mine). m.owner.name) c.new.ensures)) (new_away 3 (turned x) may (missed_new 3 (turned x) dropped)) in
    bind_stands t (socks.Unbound m) at c.ports-2.result (turned x) (turned b) (chained t x) (chained t b) (Ok (c.in-Ok-bind.bound, c.in-Ok-bind.field-0-1)) (ap (λ (x : Mine). x.owner.state) c.new.ensures) away c.in-Ok-bind.ensures.carried c.owner-2.ensures.state

pub connect-requires-clause-draws : goal.connect-requires-clause-draws
connect-requires-clause-draws g c =
    let all = c.requires.draws in
    let some : MayDraw (10 + 2) c.args.worker.now = omega arith in
    let more : MayDraw (6 + 4) c.listen.new.worker = c.listen.ensures.drawn 10 some in
    let then_ : MayDraw (4 + 2) c.syn.new.worker = c.syn.ensures.drawn 6 more in
    subst (λ (p : ChainPass). HasShares 4 (known p.pass)) (sym c.bind.ensures.chain) (c.drop_sock.ensures.drawn 4 then_)
