use Rattle.std.proofs.Common.{◌≡◌, ◌%◌, false, IfOk, OnErr, ap, sym, subst, ◌∙◌}
use Rattle.sock_card.specs.Conflict.{owner_key}
use Rattle.sock_card.specs.declared.owner.Owner.{Owner}
use Rattle.sock_card.specs.declared.owner.State.{State}
use Rattle.table_model.specs.declared.operation.OpEnd.TheVariants as errors
use Rattle.table_model.specs.Own.{Mine}
use Rattle.table_model.specs.Asking.{ends}
use Rattle.table_model.specs.Operations.{done, refused, listen, listen_as, listen_at}
use Rattle.sock_ops.specs.declared.sock.Sock.{Sock}
use Rattle.sock_ops.specs.declared.sock.Sock.TheVariants as socks
use Rattle.sock_ops.specs.Goes.{CarriedOut, Went}
use Rattle.sock_ops.specs.Listens.{TellsAs, listen_answer}
use Rattle.sock_ops.specs.Socks.{mine_of, first_mine, FitsState, without_socket}
use Rattle.sock_ops.specs.Stands.{StandsAs, buckets_of, chained, turned}
use Rattle.sock_ops.proofs.Goes.{went_nowhere}
use Rattle.sock_ops.proofs.ListenGoes.{listen_answers}
use Rattle.sock_ops.proofs.ListenStands.{bound_stands, bound_kept}
use Rattle.sock_ops.specs.Groups.{StartsLists, ListsOfListen}
use Rattle.sock_ops.proofs.ListTurns.{bound_lists}
use Rattle.sock_ops.proofs.listening.listen.Goals as goal

pub returns-in-Bound-clause-carried : goal.returns-in-Bound-clause-carried
returns-in-Bound-clause-carried g c =
    let t = c.args.tables.now in
    let l = t.chains.layout in
    let n = buckets_of t in
    let v = turned c.args.worker.now in
    let w = turned c.start-started.new.worker in
    let k = chained t c.args.worker.now in
    let d = chained t c.start-started.new.worker in
    let m : Mine = c.in-Bound.bound in
    let r = c.start-started.result in
    let owner : c.owner.result.now ≡ m.owner = c.owner.ensures.owner ∙ ap (λ (s : Sock). (mine_of s).owner) c.in-Bound.is in
    let state = subst FitsState c.in-Bound.is c.owner.ensures.state in
    let carried = subst (λ (o : Owner). CarriedOut {X = Mine} done refused n o.name (listen_at l.shape l.seed false o) v w k d r) owner c.start-started.ensures.carried in
    let planned = subst (λ (st : State). CarriedOut {X = Mine} done refused n m.owner.name (listen_as l.shape l.seed st m c.args.ports) v w k d r) (sym state) carried in
    subst (λ x. CarriedOut first_mine refused n (mine_of c.args.socket).owner.name (listen l.shape l.seed (mine_of c.args.socket) c.args.ports) v w k d (without_socket x)) (sym c.listen_answer-in-Bound.ensures)
    (subst (λ (s : Sock). CarriedOut first_mine refused n (mine_of s).owner.name (listen l.shape l.seed (mine_of s) c.args.ports) v w k d (without_socket (listen_answer (socks.Bound m) r))) (sym c.in-Bound.is)
    (listen_answers n m.owner.name (listen l.shape l.seed m c.args.ports) v w k d (socks.Bound m) r planned))

pub returns-in-Bound-clause-stands : goal.returns-in-Bound-clause-stands
returns-in-Bound-clause-stands g c =
    let t = c.args.tables.now in
    let n = buckets_of t in
    let v = turned c.args.worker.now in
    let w = turned c.start-started.new.worker in
    let k = chained t c.args.worker.now in
    let d = chained t c.start-started.new.worker in
    let m : Mine = c.in-Bound.bound in
    let r = c.start-started.result in
    let owner : c.owner.result.now ≡ m.owner = c.owner.ensures.owner ∙ ap (λ (s : Sock). (mine_of s).owner) c.in-Bound.is in
    let stands = subst (λ (s : Sock). StandsAs t s v k) c.in-Bound.is c.requires.stands in
    let tells = subst (λ (o : Owner). TellsAs (owner_key o % n) o false v w r) owner c.start-started.ensures.tells in
    subst (λ x. IfOk x (λ listens. StandsAs t listens.0 w d)) (sym c.listen_answer-in-Bound.ensures)
    (bound_stands t m v w d (socks.Bound m) stands r tells c.start-started.ensures.hashed)

pub returns-in-Bound-clause-kept : goal.returns-in-Bound-clause-kept
returns-in-Bound-clause-kept g c =
    let t = c.args.tables.now in
    let n = buckets_of t in
    let v = turned c.args.worker.now in
    let w = turned c.start-started.new.worker in
    let k = chained t c.args.worker.now in
    let d = chained t c.start-started.new.worker in
    let m : Mine = c.in-Bound.bound in
    let r = c.start-started.result in
    let owner : c.owner.result.now ≡ m.owner = c.owner.ensures.owner ∙ ap (λ (s : Sock). (mine_of s).owner) c.in-Bound.is in
    let stands = subst (λ (s : Sock). StandsAs t s v k) c.in-Bound.is c.requires.stands in
    let tells = subst (λ (o : Owner). TellsAs (owner_key o % n) o false v w r) owner c.start-started.ensures.tells in
    subst (λ x. OnErr x (StandsAs t c.args.socket w d)) (sym c.listen_answer-in-Bound.ensures)
    (subst (λ (s : Sock). OnErr (listen_answer (socks.Bound m) r) (StandsAs t s w d)) (sym c.in-Bound.is) (bound_kept t m v w d (socks.Bound m) stands r tells))

pub returns-in-Listening-clause-carried : goal.returns-in-Listening-clause-carried
returns-in-Listening-clause-carried g c =
    let t = c.args.tables.now in
    let l = t.chains.layout in
    let n = buckets_of t in
    let v = turned c.args.worker.now in
    let k = chained t c.args.worker.now in
    let m : Mine = c.in-Listening.listener in
    let state = subst FitsState c.in-Listening.is c.owner.ensures.state in
    subst (λ (s : Sock). Went n (listen l.shape l.seed (mine_of s) c.args.ports) v v k k (ends (done m))) (sym c.in-Listening.is)
    (subst (λ (st : State). Went n (listen_as l.shape l.seed st m c.args.ports) v v k k (ends (done m))) (sym state) (went_nowhere n (ends (done m)) v k))

pub returns-in-Full-clause-carried : goal.returns-in-Full-clause-carried
returns-in-Full-clause-carried g c =
    let t = c.args.tables.now in
    let l = t.chains.layout in
    let n = buckets_of t in
    let v = turned c.args.worker.now in
    let k = chained t c.args.worker.now in
    let m : Mine = c.in-Full.full in
    let state = subst FitsState c.in-Full.is c.owner.ensures.state in
    subst (λ (s : Sock). Went n (listen l.shape l.seed (mine_of s) c.args.ports) v v k k (ends (refused errors.Inval))) (sym c.in-Full.is)
    (subst (λ (st : State). Went n (listen_as l.shape l.seed st m c.args.ports) v v k k (ends (refused errors.Inval))) (sym state) (went_nowhere n (ends (refused errors.Inval)) v k))

pub returns-in-Request-clause-carried : goal.returns-in-Request-clause-carried
returns-in-Request-clause-carried g c =
    let t = c.args.tables.now in
    let l = t.chains.layout in
    let n = buckets_of t in
    let v = turned c.args.worker.now in
    let k = chained t c.args.worker.now in
    let m : Mine = c.in-Request.request in
    let state = subst FitsState c.in-Request.is c.owner.ensures.state in
    subst (λ (s : Sock). Went n (listen l.shape l.seed (mine_of s) c.args.ports) v v k k (ends (refused errors.Inval))) (sym c.in-Request.is)
    (subst (λ (st : State). Went n (listen_as l.shape l.seed st m c.args.ports) v v k k (ends (refused errors.Inval))) (sym state) (went_nowhere n (ends (refused errors.Inval)) v k))

pub returns-in-Bound-clause-lists : goal.returns-in-Bound-clause-lists
returns-in-Bound-clause-lists g c =
    let n = buckets_of c.args.tables.now in
    let v = turned c.args.worker.now in
    let u = c.start-started.new.worker in
    let w = turned u in
    let p = c.args.worker.now.groups in
    let m : Mine = c.in-Bound.bound in
    let r = c.start-started.result in
    let owner : c.owner.result.now ≡ m.owner = c.owner.ensures.owner ∙ ap (λ (s : Sock). (mine_of s).owner) c.in-Bound.is in
    let tells = subst (λ (o : Owner). TellsAs (owner_key o % n) o false v w r) owner c.start-started.ensures.tells in
    let starts = subst (λ (o : Owner). StartsLists false (owner_key o % n) o w p u.groups r) owner c.start-started.ensures.lists in
    subst (λ x. ListsOfListen n c.args.socket w p u.groups (without_socket x)) (sym c.listen_answer-in-Bound.ensures)
    (subst (λ (s : Sock). ListsOfListen n s w p u.groups (without_socket (listen_answer (socks.Bound m) r))) (sym c.in-Bound.is) (bound_lists n m.owner v w p u.groups m r tells starts))
