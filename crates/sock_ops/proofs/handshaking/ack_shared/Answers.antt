use Rattle.std.proofs.Common.{◌≡◌, Option, Bor, true, false, not, ◌==◌, IfSome, refl, ap, sym, subst, ◌∙◌}
use Rattle.std.proofs.lemmas.Bool.{or_parts}
use Rattle.sock_card.specs.declared.owner.Owner.{Owner}
use Rattle.flat_list.specs.Owned.{heir_owner, is_no_accept, is_no_ack, other_end, own_end}
use Rattle.table_model.specs.declared.operation.OpEnd.TheVariants as errors
use Rattle.table_model.specs.Own.{Mine}
use Rattle.table_model.specs.Asking.{Asking, ends}
use Rattle.table_model.specs.Operations.{Did, done, refused, ack, ack_as}
use Rattle.sock_ops.specs.declared.sock.Sock.{Sock}
use Rattle.sock_ops.specs.Goes.{Went, Carried}
use Rattle.sock_ops.specs.Handshaking.{mine_found}
use Rattle.sock_ops.specs.Socks.{FitsState, mine_of}
use Rattle.sock_ops.specs.Stands.{IsOwner, StandsAs, buckets_of, chained, turned}
use Rattle.sock_ops.proofs.Goes.{went_nowhere}
use Rattle.sock_ops.proofs.AcceptGoes.{accepts}
use Rattle.sock_ops.proofs.AckGoes.{ack_else, ack_plan, listener_stays}
use Rattle.sock_ops.proofs.handshaking.ack_shared.Goals as goal

pub returns-in_default-clause-carried : goal.returns-in_default-clause-carried
returns-in_default-clause-carried g c =
    let t = c.args.tables.now in
    let n = buckets_of t in
    let s = t.chains.layout in
    let v = turned c.args.worker.now in
    let k = chained t c.args.worker.now in
    let there : Asking Did = ends (refused errors.Inval) in
    subst (λ (p : Asking Did). Went n p v v k k there) (sym (ack_else s.shape s.seed c.args.newcomer.name c.args.newcomer.mark c.args.request.now (mine_found c.args.listener) c.owner-state.ensures.state c.in_default.not-Request)) (went_nowhere n there v k)

pub returns-then-is_no_ack-clause-carried : goal.returns-then-is_no_ack-clause-carried
returns-then-is_no_ack-clause-carried g c =
    let t = c.args.tables.now in
    let n = buckets_of t in
    let s = t.chains.layout in
    let v = turned c.args.worker.now in
    let k = chained t c.args.worker.now in
    let r : Mine = c.in-Request.request in
    let l : Mine = mine_of c.in-Some.listener.now in
    let there : Asking Did = ends (refused errors.Inval) in
    let own : c.request.inside.owner ≡ r.owner = ap (λ (x : Mine). x.owner) c.request.view_is in
    let owner : c.owner-owner.result.now ≡ l.owner = c.owner-owner.ensures.owner in
    let state = subst FitsState c.in-Request.is c.owner-state.ensures.state in
    let is : is_no_ack l.owner r.owner ≡ true = sym (λ i. is_no_ack (owner i) (own i)) ∙ sym c.is_no_ack.ensures ∙ c.if-is_no_ack.true in
    let plan : there ≡ ack s.shape s.seed (mine_of c.args.request.now) (mine_found c.args.listener) c.args.newcomer.name c.args.newcomer.mark =
    ack_plan s.shape s.seed c.args.newcomer.name c.args.newcomer.mark r l true state is ∙ sym (λ i. ack s.shape s.seed (mine_of (c.in-Request.is i)) (mine_found (c.in-Some.is i)) c.args.newcomer.name c.args.newcomer.mark) in
    subst (λ (p : Asking Did). Went n p v v k k there) plan (went_nowhere n there v k)

pub returns-clause-carried : goal.returns-clause-carried
returns-clause-carried g c =
    let t = c.args.tables.now in
    let n = buckets_of t in
    let s = t.chains.layout in
    let v = turned c.args.worker.now in
    let w = turned c.ack_as.new.worker in
    let k = chained t c.args.worker.now in
    let d = chained t c.ack_as.new.worker in
    let r : Mine = c.in-Request.request in
    let l : Mine = mine_of c.in-Some.listener.now in
    let name = c.args.newcomer.name in
    let mark = c.args.newcomer.mark in
    let heir : Owner = c.heir_owner-child.result in
    let result = c.ack_as.result in
    let own : c.request.inside.owner ≡ r.owner = ap (λ (x : Mine). x.owner) c.request.view_is in
    let owner : c.owner-owner.result.now ≡ l.owner = c.owner-owner.ensures.owner in
    let state = subst FitsState c.in-Request.is c.owner-state.ensures.state in
    let isnt : is_no_ack l.owner r.owner ≡ false = sym (λ i. is_no_ack (owner i) (own i)) ∙ sym c.is_no_ack.ensures ∙ c.if-is_no_ack.false in
    let child : heir ≡ heir_owner l.owner name mark r.owner = c.heir_owner-child.ensures ∙ (λ i. heir_owner (owner i) name mark (own i)) in
    let plan : ack_as s.shape s.seed r l.owner (heir_owner l.owner name mark r.owner) ≡ ack s.shape s.seed (mine_of c.args.request.now) (mine_found c.args.listener) name mark =
    ack_plan s.shape s.seed name mark r l false state isnt ∙ sym (λ i. ack s.shape s.seed (mine_of (c.in-Request.is i)) (mine_found (c.in-Some.is i)) name mark) in
    let first = subst (λ (o : Owner). Carried {X = Mine} done refused n (ack_as s.shape s.seed r o heir) v w k d result) owner c.ack_as.ensures.carried in
    let second = subst (λ (a : Owner). Carried {X = Mine} done refused n (ack_as s.shape s.seed r l.owner a) v w k d result) child first in
    subst (λ (p : Asking Did). Carried {X = Mine} done refused n p v w k d result) plan second

pub returns-clause-listener : goal.returns-clause-listener
returns-clause-listener g c =
    let t = c.args.tables.now in
    let v = turned c.args.worker.now in
    let w = turned c.ack_as.new.worker in
    let k = chained t c.args.worker.now in
    let d = chained t c.ack_as.new.worker in
    let r : Mine = c.in-Request.request in
    let l : Sock = c.in-Some.listener.now in
    let own : c.request.inside.owner ≡ r.owner = ap (λ (x : Mine). x.owner) c.request.view_is in
    let owner : c.owner-owner.result.now ≡ (mine_of l).owner = c.owner-owner.ensures.owner in
    let isnt : is_no_ack (mine_of l).owner r.owner ≡ false = sym (λ i. is_no_ack (owner i) (own i)) ∙ sym c.is_no_ack.ensures ∙ c.if-is_no_ack.false in
    let from = other_end r.owner in
    let at = own_end r.owner in
    let listens = accepts (mine_of l).owner from at (or_parts (is_no_accept (mine_of l).owner from at) (not ((mine_of l).owner.net == r.owner.net)) isnt).0 in
    let stood = subst (λ (o : Option (Bor Sock)). IfSome o (λ x. StandsAs t x.now v k)) c.in-Some.is c.requires.stands in
    subst (λ (o : Option (Bor Sock)). IfSome o (λ x. StandsAs t x.now w d)) (sym c.in-Some.is)
    (listener_stays t l r v w k d c.owner-owner.ensures.state listens refl c.ack_as.ensures.others stood (subst (λ (o : Owner). IsOwner t o w) owner c.ack_as.ensures.listener))
