use Rattle.std.proofs.Common.{◌≡◌, ◌+◌, ◌==◌, ℕ, Ok, Some, false, sym, ap, subst, ◌∙◌, arith}
use Rattle.sock_card.specs.declared.owner.Owner.{Owner}
use Rattle.bind_buckets.specs.Callers.{MayName}
use Rattle.table_rule.specs.Calls.{HasShares}
use Rattle.table_rule.specs.Passes.{known}
use Rattle.sock_ops.specs.declared.chains.table.ChainPass.{ChainPass}
use Rattle.chain_book.specs.declared.outcome.Replace.TheVariants as rules
use Rattle.flat_list.specs.declared.command.End.{End}
use Rattle.table_model.specs.Own.{Mine}
use Rattle.table_model.specs.Operations as plans
use Rattle.sock_ops.specs.declared.sock.Sock.TheVariants as socks
use Rattle.sock_ops.specs.Socks.{mine_of}
use Rattle.sock_ops.specs.Stands.{IsAway, MayDraw, buckets_of, chained, turned}
use Rattle.sock_ops.proofs.BindStands.{bind_stands}
use Rattle.sock_ops.proofs.Knows.{new_away}
use Rattle.table_tests.proofs.Others.{AllMiss, close_never, connect_never, missed_new, still_missed}
use Rattle.table_tests.proofs.operations.call_again.Goals as goal

pub close-requires-clause-draws : goal.close-requires-clause-draws
close-requires-clause-draws g c =
    let all = c.requires.draws in
    let some : MayDraw (4 + 4) c.args.worker.now = omega arith in
    c.connect-connected.ensures.drawn 4 some

pub listen-requires-clause-stands : goal.listen-requires-clause-stands
listen-requires-clause-stands g c =
    let t = c.args.tables.now in
    let n = buckets_of t in
    let l = t.chains.layout in
    let u = c.args.worker.now in
    let v = c.connect-connected.new.worker in
    let w = c.close.new.worker in
    let s = c.args.socket in
    let full = mine_of c.in-Ok.full in
    let to : End = record { addr = 0x0A000003; port = 1000 } in
    let other : ((mine_of s).owner.name == 2) ≡ false = ap (λ (k : ℕ). k == 2) c.requires.name in
    let named : (full.owner.name == 2) ≡ false = ap (λ (k : ℕ). k == 2) (sym (ap (λ (o : Owner). o.name) c.owner.ensures.owner) ∙ c.if-owner-ne1.false) in
    let none : AllMiss 2 (turned u).mine = subst (AllMiss 2) (sym c.requires.untold) tt in
    let connected : AllMiss 2 (turned v).mine =
    still_missed 2 n (plans.connect l.shape l.seed (mine_of s) (Some 0x0A000002) to 3 rules.Never c.ports.result) _ (turned u) (turned v) (chained t u) (chained t v) c.in-Ok.ensures.carried (connect_never l.shape l.seed 2 (mine_of s) other (Some 0x0A000002) to 3 rules.Never c.ports.result) none in
    let closed : AllMiss 2 (turned w).mine =
    still_missed 2 n (plans.close l.shape l.seed full 5) _ (turned v) (turned w) (chained t v) (chained t w) c.in-Ok-TimeWait.ensures.carried (close_never l.shape l.seed 2 full named 5) connected in
    let may : MayName (turned w).caller 2 = λ some. absurd (some (c.close.ensures.caller ∙ c.connect-connected.ensures.caller ∙ c.requires.first)) in
    let m = c.new.result in
    let b = c.bind.new.worker in
    let away : IsAway m.owner.name (turned w) = subst (λ (name : ℕ). IsAway name (turned w)) (sym (ap (λ (m : Mine). m.owner.name) c.new.ensures)) (new_away 2 (turned w) may (missed_new 2 (turned w) closed)) in
    bind_stands t (socks.Unbound m) c.in-Ok.at c.ports-2.result (turned w) (turned b) (chained t w) (chained t b) (Ok (c.in-Ok-bind.bound, c.in-Ok-bind.field-0-1)) (ap (λ (x : Mine). x.owner.state) c.new.ensures) away c.in-Ok-bind.ensures.carried c.owner-2.ensures.state

pub listen-requires-clause-draws : goal.listen-requires-clause-draws
listen-requires-clause-draws g c =
    let all = c.requires.draws in
    let some : MayDraw (6 + 4) c.args.worker.now = omega arith in
    let more : MayDraw (2 + 4) c.connect-connected.new.worker = c.connect-connected.ensures.drawn 6 some in
    subst (λ (p : ChainPass). HasShares 2 (known p.pass)) (sym c.bind.ensures.chain) (c.close.ensures.drawn 2 more)

pub syn-request-requires-clause-draws : goal.syn-request-requires-clause-draws
syn-request-requires-clause-draws g c =
    let all = c.requires.draws in
    let some : MayDraw (10 + 4) c.args.worker.now = omega arith in
    let more : MayDraw (6 + 4) c.connect-connected.new.worker = c.connect-connected.ensures.drawn 10 some in
    c.listen.ensures.drawn 4 (subst (λ (p : ChainPass). HasShares (4 + 2) (known p.pass)) (sym c.bind.ensures.chain) (c.close.ensures.drawn 6 more))

pub reap_one-requires-clause-draws : goal.reap_one-requires-clause-draws
reap_one-requires-clause-draws g c =
    let all = c.requires.draws in
    let some : MayDraw (12 + 4) c.args.worker.now = omega arith in
    let more : MayDraw (8 + 4) c.connect-connected.new.worker = c.connect-connected.ensures.drawn 12 some in
    c.syn-request.ensures.drawn 2
    (c.listen.ensures.drawn 6 (subst (λ (p : ChainPass). HasShares (6 + 2) (known p.pass)) (sym c.bind.ensures.chain) (c.close.ensures.drawn 8 more)))
