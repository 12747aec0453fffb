use Rattle.std.proofs.Common.{◌≡◌, Some, None, refl, ap, sym, subst, ◌∙◌}
use Rattle.sock_card.specs.declared.owner.Owner.{Owner}
use Rattle.sock_card.specs.declared.owner.State.TheVariants as states
use Rattle.flat_list.specs.Owned.{connected_to}
use Rattle.table_model.specs.Own.{Mine}
use Rattle.table_model.specs.declared.operation.OpEnd.TheVariants as errors
use Rattle.table_model.specs.Asking.{Asking, ends}
use Rattle.table_model.specs.Operations.{Did, done, refused, connect, connect_bound, search_connect}
use Rattle.sock_ops.specs.declared.sock.Sock.{Sock}
use Rattle.sock_ops.specs.declared.sock.Sock.TheVariants as socks
use Rattle.sock_ops.specs.Connecting.{connect_answer}
use Rattle.sock_ops.specs.Goes.{Went, Carried}
use Rattle.sock_ops.specs.Socks.{FitsState, mine_of, first_mine, source_to, without_socket}
use Rattle.sock_ops.specs.Stands.{buckets_of, chained, turned}
use Rattle.sock_ops.proofs.Goes.{went_nowhere}
use Rattle.sock_ops.proofs.SockGoes.{connect_answered, plan_by}
use Rattle.sock_ops.proofs.Spares.{lists_kept, connect_bound_spares, search_connect_spares}
use Rattle.sock_ops.proofs.connecting.connect.Goals as goal

pub returns-in_default-source_to-clause-carried : goal.returns-in_default-source_to-clause-carried
returns-in_default-source_to-clause-carried g c =
    let t = c.args.tables.now in
    let n = buckets_of t in
    let v = turned c.args.worker.now in
    let k = chained t c.args.worker.now in
    let shape = t.chains.layout.shape in
    let seed = t.chains.layout.seed in
    let m : Mine = c.in-Bound.bound in
    let from = c.args.from in
    let to = c.args.to in
    let owner : c.owner.result.now ≡ m.owner = c.owner.ensures.owner ∙ ap (λ (s : Sock). (mine_of s).owner) c.in-Bound.is in
    let state = subst FitsState c.in-Bound.is c.owner.ensures.state in
    let src : source_to m.owner.addr from to ≡ None = ap (λ (o : Owner). source_to o.addr from to) (sym owner) ∙ sym c.source_to-in-Bound.ensures ∙ c.in_default-source_to.is in
    let planned = subst (λ (p : Asking Did). Went n p v v k k (ends (refused errors.Inval))) (plan_by shape seed m from to c.args.moment c.args.rule c.args.ports states.Bound None state src) (went_nowhere n (ends (refused errors.Inval)) v k) in
    subst (λ (s : Sock). Went n (connect shape seed (mine_of s) from to c.args.moment c.args.rule c.args.ports) v v k k (ends (refused errors.Inval))) (sym c.in-Bound.is) planned

pub returns-in_default-clause-carried : goal.returns-in_default-clause-carried
returns-in_default-clause-carried g c =
    let t = c.args.tables.now in
    let n = buckets_of t in
    let v = turned c.args.worker.now in
    let k = chained t c.args.worker.now in
    let shape = t.chains.layout.shape in
    let seed = t.chains.layout.seed in
    let m : Mine = c.in-Unbound.unbound in
    let from = c.args.from in
    let to = c.args.to in
    let owner : c.owner.result.now ≡ m.owner = c.owner.ensures.owner ∙ ap (λ (s : Sock). (mine_of s).owner) c.in-Unbound.is in
    let state = subst FitsState c.in-Unbound.is c.owner.ensures.state in
    let src : source_to m.owner.addr from to ≡ None = ap (λ (o : Owner). source_to o.addr from to) (sym owner) ∙ sym c.source_to.ensures ∙ c.in_default.is in
    let planned = subst (λ (p : Asking Did). Went n p v v k k (ends (refused errors.Inval))) (plan_by shape seed m from to c.args.moment c.args.rule c.args.ports states.Unbound None state src) (went_nowhere n (ends (refused errors.Inval)) v k) in
    subst (λ (s : Sock). Went n (connect shape seed (mine_of s) from to c.args.moment c.args.rule c.args.ports) v v k k (ends (refused errors.Inval))) (sym c.in-Unbound.is) planned

pub returns-in-Some-source_to-clause-carried : goal.returns-in-Some-source_to-clause-carried
returns-in-Some-source_to-clause-carried g c =
    let t = c.args.tables.now in
    let n = buckets_of t in
    let old = c.args.worker.now in
    let new = c.connect_bound-full.new.worker in
    let v = turned old in
    let w = turned new in
    let k = chained t old in
    let d = chained t new in
    let shape = t.chains.layout.shape in
    let seed = t.chains.layout.seed in
    let m : Mine = c.in-Bound.bound in
    let from = c.args.from in
    let to = c.args.to in
    let moment = c.args.moment in
    let rule = c.args.rule in
    let ports = c.args.ports in
    let r = c.connect_bound-full.result in
    let source = c.in-Some-source_to.source in
    let owner : c.owner.result.now ≡ m.owner = c.owner.ensures.owner ∙ ap (λ (s : Sock). (mine_of s).owner) c.in-Bound.is in
    let state = subst FitsState c.in-Bound.is c.owner.ensures.state in
    let full : c.connected_to-full.result ≡ connected_to m.owner source to = c.connected_to-full.ensures ∙ ap (λ (o : Owner). connected_to o source to) owner in
    let src : source_to m.owner.addr from to ≡ Some source = ap (λ (o : Owner). source_to o.addr from to) (sym owner) ∙ sym c.source_to-in-Bound.ensures ∙ c.in-Some-source_to.is in
    let carried = subst (λ (o : Owner). Carried {X = Mine} done refused n (connect_bound shape seed o moment rule) v w k d r) full c.connect_bound-full.ensures.carried in
    let planned = subst (λ (p : Asking Did). Carried {X = Mine} done refused n p v w k d r) (plan_by shape seed m from to moment rule ports states.Bound (Some source) state src) carried in
    subst (λ q. Carried first_mine refused n (connect shape seed (mine_of c.args.socket) from to moment rule ports) v w k d (without_socket q)) (sym c.connect_answer-in-Bound.ensures)
    (subst (λ (s : Sock). Carried first_mine refused n (connect shape seed (mine_of s) from to moment rule ports) v w k d (without_socket (connect_answer (socks.Bound m) r))) (sym c.in-Bound.is)
    (connect_answered n (connect shape seed m from to moment rule ports) v w k d (socks.Bound m) r planned))

pub returns-in-Listening-clause-carried : goal.returns-in-Listening-clause-carried
returns-in-Listening-clause-carried g c =
    let t = c.args.tables.now in
    let n = buckets_of t in
    let v = turned c.args.worker.now in
    let k = chained t c.args.worker.now in
    let shape = t.chains.layout.shape in
    let seed = t.chains.layout.seed in
    let m : Mine = c.in-Listening.listener in
    let state = subst FitsState c.in-Listening.is c.owner.ensures.state in
    let planned = subst (λ (p : Asking Did). Went n p v v k k (ends (refused errors.IsConn))) (plan_by shape seed m c.args.from c.args.to c.args.moment c.args.rule c.args.ports states.Listening _ state refl) (went_nowhere n (ends (refused errors.IsConn)) v k) in
    subst (λ (s : Sock). Went n (connect shape seed (mine_of s) c.args.from c.args.to c.args.moment c.args.rule c.args.ports) v v k k (ends (refused errors.IsConn))) (sym c.in-Listening.is) planned

pub returns-in-Full-clause-carried : goal.returns-in-Full-clause-carried
returns-in-Full-clause-carried g c =
    let t = c.args.tables.now in
    let n = buckets_of t in
    let v = turned c.args.worker.now in
    let k = chained t c.args.worker.now in
    let shape = t.chains.layout.shape in
    let seed = t.chains.layout.seed in
    let m : Mine = c.in-Full.full in
    let state = subst FitsState c.in-Full.is c.owner.ensures.state in
    let planned = subst (λ (p : Asking Did). Went n p v v k k (ends (refused errors.IsConn))) (plan_by shape seed m c.args.from c.args.to c.args.moment c.args.rule c.args.ports states.Full _ state refl) (went_nowhere n (ends (refused errors.IsConn)) v k) in
    subst (λ (s : Sock). Went n (connect shape seed (mine_of s) c.args.from c.args.to c.args.moment c.args.rule c.args.ports) v v k k (ends (refused errors.IsConn))) (sym c.in-Full.is) planned

pub returns-in-Request-clause-carried : goal.returns-in-Request-clause-carried
returns-in-Request-clause-carried g c =
    let t = c.args.tables.now in
    let n = buckets_of t in
    let v = turned c.args.worker.now in
    let k = chained t c.args.worker.now in
    let shape = t.chains.layout.shape in
    let seed = t.chains.layout.seed in
    let m : Mine = c.in-Request.request in
    let state = subst FitsState c.in-Request.is c.owner.ensures.state in
    let planned = subst (λ (p : Asking Did). Went n p v v k k (ends (refused errors.Inval))) (plan_by shape seed m c.args.from c.args.to c.args.moment c.args.rule c.args.ports states.Request _ state refl) (went_nowhere n (ends (refused errors.Inval)) v k) in
    subst (λ (s : Sock). Went n (connect shape seed (mine_of s) c.args.from c.args.to c.args.moment c.args.rule c.args.ports) v v k k (ends (refused errors.Inval))) (sym c.in-Request.is) planned

pub returns-in-Some-clause-listed : goal.returns-in-Some-clause-listed
returns-in-Some-clause-listed g c =
    let t = c.args.tables.now in
    let l = t.chains.layout in
    let e = c.search_connect-full.ensures in
    let a = c.owner.result.now in
    lists_kept done refused t c.args.worker.now c.search_connect-full.new.worker (search_connect l.shape l.seed a c.in-Some.source c.args.to c.args.moment c.args.rule c.args.ports) c.search_connect-full.result e.groups
    (search_connect_spares l.shape l.seed a c.in-Some.source c.args.to c.args.moment c.args.rule c.args.ports) e.carried

pub returns-in-Some-source_to-clause-listed : goal.returns-in-Some-source_to-clause-listed
returns-in-Some-source_to-clause-listed g c =
    let t = c.args.tables.now in
    let l = t.chains.layout in
    let e = c.connect_bound-full.ensures in
    let a = c.connected_to-full.result in
    lists_kept done refused t c.args.worker.now c.connect_bound-full.new.worker (connect_bound l.shape l.seed a c.args.moment c.args.rule) c.connect_bound-full.result e.groups
    (connect_bound_spares l.shape l.seed a c.args.moment c.args.rule) e.carried
