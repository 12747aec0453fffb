use Rattle.std.proofs.Common.{◌≡◌, Err, false, refl, ap, sym, subst, ◌∙◌}
use Rattle.sock_card.specs.declared.owner.Owner.{Owner}
use Rattle.flat_list.specs.Owned.{child_owner, is_no_accept}
use Rattle.table_model.specs.Own.{Mine}
use Rattle.table_model.specs.Asking.{Asking, ends}
use Rattle.table_model.specs.Operations.{Did, done, refused, accept, accept_as}
use Rattle.sock_ops.specs.declared.sock.Sock.{Sock}
use Rattle.sock_ops.specs.Accepting.{accepted}
use Rattle.sock_ops.specs.Goes.{Went, Carried}
use Rattle.sock_ops.specs.Socks.{mine_of}
use Rattle.sock_ops.specs.Stands.{IsOwner, buckets_of, chained, turned}
use Rattle.sock_ops.proofs.Goes.{same_err}
use Rattle.sock_ops.proofs.AcceptGoes.{accepts, accept_plan, listener_stands}
use Rattle.sock_ops.proofs.Spares.{lists_kept, accept_spares}
use Rattle.sock_ops.proofs.accepting.accept.Goals as goal

pub returns-in-Ok-clause-carried : goal.returns-in-Ok-clause-carried
returns-in-Ok-clause-carried g c =
    let t = c.args.tables.now in
    let n = buckets_of t in
    let old = c.args.worker.now in
    let new = c.accept_as.new.worker in
    let shape = t.chains.layout.shape in
    let seed = t.chains.layout.seed in
    let m : Mine = mine_of c.args.listener.now in
    let owner = c.owner.ensures.owner in
    let child : c.child_owner-child.result ≡ child_owner m.owner c.args.newcomer.name c.args.newcomer.mark c.args.from c.args.at = c.child_owner-child.ensures ∙ ap (λ (o : Owner). child_owner o c.args.newcomer.name c.args.newcomer.mark c.args.from c.args.at) owner in
    let isnt : is_no_accept m.owner c.args.from c.args.at ≡ false = ap (λ (o : Owner). is_no_accept o c.args.from c.args.at) (sym owner) ∙ sym c.is_no_accept.ensures ∙ c.if-is_no_accept.false in
    subst (λ (p : Asking Did). Went n p (turned old) (turned new) (chained t old) (chained t new) (ends (done c.in-Ok.child))) (accept_plan shape seed m c.args.newcomer.name c.args.newcomer.mark c.args.from c.args.at isnt)
    (subst (λ (a : Owner). Went n (accept_as shape seed m.owner a) (turned old) (turned new) (chained t old) (chained t new) (ends (done c.in-Ok.child))) child
    (subst (λ (o : Owner). Went n (accept_as shape seed o c.child_owner-child.result) (turned old) (turned new) (chained t old) (chained t new) (ends (done c.in-Ok.child))) owner c.in-Ok.ensures.carried))

pub returns-in-Err-clause-carried : goal.returns-in-Err-clause-carried
returns-in-Err-clause-carried g c =
    let t = c.args.tables.now in
    let n = buckets_of t in
    let old = c.args.worker.now in
    let new = c.accept_as.new.worker in
    let shape = t.chains.layout.shape in
    let seed = t.chains.layout.seed in
    let m : Mine = mine_of c.args.listener.now in
    let owner = c.owner.ensures.owner in
    let child : c.child_owner-child.result ≡ child_owner m.owner c.args.newcomer.name c.args.newcomer.mark c.args.from c.args.at = c.child_owner-child.ensures ∙ ap (λ (o : Owner). child_owner o c.args.newcomer.name c.args.newcomer.mark c.args.from c.args.at) owner in
    let isnt : is_no_accept m.owner c.args.from c.args.at ≡ false = ap (λ (o : Owner). is_no_accept o c.args.from c.args.at) (sym owner) ∙ sym c.is_no_accept.ensures ∙ c.if-is_no_accept.false in
    let end = c.in-Err.end in
    let first = subst (λ (o : Owner). Carried {X = Mine} done refused n (accept_as shape seed o c.child_owner-child.result) (turned old) (turned new) (chained t old) (chained t new) (Err end)) owner c.in-Err.ensures.carried in
    let second = subst (λ (a : Owner). Carried {X = Mine} done refused n (accept_as shape seed m.owner a) (turned old) (turned new) (chained t old) (chained t new) (Err end)) child first in
    same_err {X = Mine} {Y = Sock} done accepted refused n (accept shape seed m c.args.newcomer.name c.args.newcomer.mark c.args.from c.args.at) (turned old) (turned new) (chained t old) (chained t new) end
    (subst (λ (p : Asking Did). Carried {X = Mine} done refused n p (turned old) (turned new) (chained t old) (chained t new) (Err end)) (accept_plan shape seed m c.args.newcomer.name c.args.newcomer.mark c.args.from c.args.at isnt) second)

pub returns-in-Ok-clause-listener : goal.returns-in-Ok-clause-listener
returns-in-Ok-clause-listener g c =
    let t = c.args.tables.now in
    let old = c.args.worker.now in
    let new = c.accept_as.new.worker in
    let s = c.args.listener.now in
    let owner = c.owner.ensures.owner in
    let isnt = sym c.is_no_accept.ensures ∙ c.if-is_no_accept.false in
    let listens = sym (ap (λ (o : Owner). o.state) owner) ∙ accepts c.owner.result.now c.args.from c.args.at isnt in
    listener_stands t s (turned old) (turned new) (chained t old) (chained t new) c.owner.ensures.state listens refl c.accept_as.ensures.stay c.requires.stands
    (subst (λ (o : Owner). IsOwner t o (turned new)) owner c.accept_as.ensures.listener)

pub returns-in-Err-clause-listener : goal.returns-in-Err-clause-listener
returns-in-Err-clause-listener g c =
    let t = c.args.tables.now in
    let old = c.args.worker.now in
    let new = c.accept_as.new.worker in
    let s = c.args.listener.now in
    let owner = c.owner.ensures.owner in
    let isnt = sym c.is_no_accept.ensures ∙ c.if-is_no_accept.false in
    let listens = sym (ap (λ (o : Owner). o.state) owner) ∙ accepts c.owner.result.now c.args.from c.args.at isnt in
    listener_stands t s (turned old) (turned new) (chained t old) (chained t new) c.owner.ensures.state listens refl c.accept_as.ensures.stay c.requires.stands
    (subst (λ (o : Owner). IsOwner t o (turned new)) owner c.accept_as.ensures.listener)

pub returns-in-Ok-clause-listed : goal.returns-in-Ok-clause-listed
returns-in-Ok-clause-listed g c =
    let t = c.args.tables.now in
    let l = t.chains.layout in
    let e = c.accept_as.ensures in
    lists_kept done refused t c.args.worker.now c.accept_as.new.worker (accept_as l.shape l.seed c.owner.result.now c.child_owner-child.result) c.accept_as.result e.groups (accept_spares l.shape l.seed c.owner.result.now c.child_owner-child.result) e.carried

pub returns-in-Err-clause-listed : goal.returns-in-Err-clause-listed
returns-in-Err-clause-listed g c =
    let t = c.args.tables.now in
    let l = t.chains.layout in
    let e = c.accept_as.ensures in
    lists_kept done refused t c.args.worker.now c.accept_as.new.worker (accept_as l.shape l.seed c.owner.result.now c.child_owner-child.result) c.accept_as.result e.groups (accept_spares l.shape l.seed c.owner.result.now c.child_owner-child.result) e.carried
