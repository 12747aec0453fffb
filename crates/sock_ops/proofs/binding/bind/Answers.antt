use Rattle.std.proofs.Common.{◌≡◌, ℕ, ◌==◌, ◌&&◌, true, refl, ap, sym, subst, ◌∙◌, eq-eqb}
use Rattle.std.proofs.lemmas.Bool.{and_from}
use Rattle.turn_table.specs.Passes.{known}
use Rattle.sock_card.specs.declared.owner.Owner.{Owner}
use Rattle.sock_card.specs.declared.owner.State.TheVariants as states
use Rattle.table_model.specs.Own.{Mine}
use Rattle.table_model.specs.declared.operation.OpEnd.TheVariants as errors
use Rattle.table_model.specs.Asking.{ends}
use Rattle.table_model.specs.Operations.{done, refused, bind, bind_unbound}
use Rattle.sock_ops.specs.declared.sock.Sock.{Sock}
use Rattle.sock_ops.specs.declared.sock.Sock.TheVariants as socks
use Rattle.sock_ops.specs.Binding.{bound_to, bound_answer}
use Rattle.sock_ops.specs.Goes.{Went, Carried}
use Rattle.sock_ops.specs.Socks.{FitsState, mine_of, first_mine, without_socket}
use Rattle.sock_ops.specs.Stands.{buckets_of, chained, turned}
use Rattle.sock_ops.proofs.BindGoes.{bind_answers, late_goes, has_port}
use Rattle.reuseport_group.specs.Passes as lists
use Rattle.sock_ops.proofs.Lists.{sparing_same}
use Rattle.sock_ops.proofs.Spares.{bind_unbound_spares, carried_spares}
use Rattle.sock_ops.proofs.binding.bind.Goals as goal

pub returns-else-end-eq0-clause-carried : goal.returns-else-end-eq0-clause-carried
returns-else-end-eq0-clause-carried g c =
    let t = c.args.tables.now in
    let n = buckets_of t in
    let v = turned c.args.worker.now in
    let w = known c.bind_unbound-bound.new.pass in
    let k = chained t c.args.worker.now in
    let m : Mine = c.in-Unbound.unbound in
    let end = c.args.end in
    let ports = c.args.ports in
    let r = c.bind_unbound-bound.result in
    let s = socks.Unbound m in
    let owner : c.owner-owner.result.now ≡ m.owner = c.owner-owner.ensures.owner ∙ ap (λ (x : Sock). (mine_of x).owner) c.in-Unbound.is in
    let state = subst FitsState c.in-Unbound.is c.owner-owner.ensures.state in
    let carried = subst (λ (o : Owner). Carried (bound_to o end.addr) refused n (bind_unbound o end ports) v w k k r) owner (c.bind_unbound-bound.ensures.carried k) in
    let said : c.bound_answer.result ≡ bound_answer s m.owner end.addr r = subst (λ (o : Owner). c.bound_answer.result ≡ bound_answer s o end.addr r) owner c.bound_answer.ensures in
    let answered = bind_answers n m end ports v w k s r state carried in
    subst (λ (x : Sock). Carried first_mine refused n (bind (mine_of x) end ports) v w k k (without_socket c.bound_answer.result)) (sym c.in-Unbound.is)
    (subst (λ q. Carried first_mine refused n (bind m end ports) v w k k (without_socket q)) (sym said) answered)

pub returns-in-Bound-clause-carried : goal.returns-in-Bound-clause-carried
returns-in-Bound-clause-carried g c =
    let t = c.args.tables.now in
    let v = turned c.args.worker.now in
    let k = chained t c.args.worker.now in
    subst (λ (x : Sock). Went (buckets_of t) (bind (mine_of x) c.args.end c.args.ports) v v k k (ends (refused errors.Inval))) (sym c.in-Bound.is)
    (has_port (buckets_of t) c.in-Bound.bound c.args.end c.args.ports v k states.Bound (subst FitsState c.in-Bound.is c.owner-owner.ensures.state) refl)

pub returns-in-Listening-clause-carried : goal.returns-in-Listening-clause-carried
returns-in-Listening-clause-carried g c =
    let t = c.args.tables.now in
    let v = turned c.args.worker.now in
    let k = chained t c.args.worker.now in
    subst (λ (x : Sock). Went (buckets_of t) (bind (mine_of x) c.args.end c.args.ports) v v k k (ends (refused errors.Inval))) (sym c.in-Listening.is)
    (has_port (buckets_of t) c.in-Listening.listener c.args.end c.args.ports v k states.Listening (subst FitsState c.in-Listening.is c.owner-owner.ensures.state) refl)

pub returns-in-Full-clause-carried : goal.returns-in-Full-clause-carried
returns-in-Full-clause-carried g c =
    let t = c.args.tables.now in
    let v = turned c.args.worker.now in
    let k = chained t c.args.worker.now in
    subst (λ (x : Sock). Went (buckets_of t) (bind (mine_of x) c.args.end c.args.ports) v v k k (ends (refused errors.Inval))) (sym c.in-Full.is)
    (has_port (buckets_of t) c.in-Full.full c.args.end c.args.ports v k states.Full (subst FitsState c.in-Full.is c.owner-owner.ensures.state) refl)

pub returns-in-Request-clause-carried : goal.returns-in-Request-clause-carried
returns-in-Request-clause-carried g c =
    let t = c.args.tables.now in
    let v = turned c.args.worker.now in
    let k = chained t c.args.worker.now in
    subst (λ (x : Sock). Went (buckets_of t) (bind (mine_of x) c.args.end c.args.ports) v v k k (ends (refused errors.Inval))) (sym c.in-Request.is)
    (has_port (buckets_of t) c.in-Request.request c.args.end c.args.ports v k states.Request (subst FitsState c.in-Request.is c.owner-owner.ensures.state) refl)

pub returns-then-owner-clause-carried : goal.returns-then-owner-clause-carried
returns-then-owner-clause-carried g c =
    let t = c.args.tables.now in
    let n = buckets_of t in
    let v = turned c.args.worker.now in
    let k = chained t c.args.worker.now in
    let m : Mine = c.in-Unbound.unbound in
    let end = c.args.end in
    let owner : c.owner-owner.result.now ≡ m.owner = c.owner-owner.ensures.owner ∙ ap (λ (x : Sock). (mine_of x).owner) c.in-Unbound.is in
    let state = subst FitsState c.in-Unbound.is c.owner-owner.ensures.state in
    let late : ((end.port == 0) && m.owner.noport) ≡ true =
    and_from (end.port == 0) m.owner.noport (eq-eqb end.port 0 c.if-end-eq0.true) (ap (λ (o : Owner). o.noport) (sym owner) ∙ c.if-owner.true) in
    subst (λ (x : Sock). Went n (bind (mine_of x) end c.args.ports) v v k k (ends (first_mine {B = ℕ} (socks.Unbound c.at_address.result, 0)))) (sym c.in-Unbound.is)
    (subst (λ (a : Mine). Went n (bind m end c.args.ports) v v k k (ends (done a))) (sym c.at_address.ensures) (late_goes n m end c.args.ports v k state late))

pub returns-else-end-eq0-clause-listed : goal.returns-else-end-eq0-clause-listed
returns-else-end-eq0-clause-listed g c =
    let t = c.args.tables.now in
    let old = c.args.worker.now in
    let new = known c.bind_unbound-bound.new.pass in
    let a = c.owner-owner.result.now in
    sparing_same (lists.groups t.groups) (turned old) new old.groups old.groups refl
    (carried_spares (bound_to a c.args.end.addr) refused (buckets_of t) (bind_unbound a c.args.end c.args.ports) (turned old) new (chained t old) (chained t old) (bind_unbound_spares a c.args.end c.args.ports)
    c.bind_unbound-bound.result (c.bind_unbound-bound.ensures.carried (chained t old)))
