use Rattle.std.proofs.Common.{◌≡◌, ◌∷◌, [], ◌%◌, OnErr, OnOk, ap, sym, subst, ◌∙◌}
use Rattle.sock_card.specs.Conflict.{owner_key}
use Rattle.turn_table.specs.Passes.{known}
use Rattle.sock_card.specs.declared.owner.Owner.{Owner}
use Rattle.sock_card.specs.declared.owner.State.{State}
use Rattle.table_model.specs.Own.{Mine}
use Rattle.table_model.specs.Operations as plans
use Rattle.sock_ops.specs.Sides.{side_of}
use Rattle.sock_ops.specs.declared.sock.Sock.{Sock}
use Rattle.sock_ops.specs.Socks.{mine_of, FitsState}
use Rattle.sock_ops.specs.Goes.{AskedAll}
use Rattle.sock_ops.specs.Groups.{LeavesAs, ListsOfLeave}
use Rattle.sock_ops.specs.Closes.{Leaves, is_gone, leave_entry}
use Rattle.sock_ops.specs.Stands.{IsOwner, StandsAs, buckets_of, turned}
use Rattle.sock_ops.proofs.CloseGoes.{never_fails, port_kept, port_leaves, port_lists, port_nothing}
use Rattle.sock_ops.proofs.leaving.leave.Goals as goal

pub returns-in-Bound-clause-carried : goal.returns-in-Bound-clause-carried
returns-in-Bound-clause-carried g c =
    let t = c.args.tables.now in
    let n = buckets_of t in
    let v = turned c.args.worker.now in
    let w = known c.leave_port.new.pass in
    let k = side_of t.chains c.args.worker.now.chain in
    let r = c.leave_port.result in
    let m : Mine = c.in-Bound.field-0 in
    let owner : c.owner-owner.result.now ≡ m.owner = c.owner-owner.ensures.owner ∙ ap (λ (s : Sock). (mine_of s).owner) c.in-Bound.is in
    let state = subst FitsState c.in-Bound.is c.owner-owner.ensures.state in
    let all = subst (λ (o : Owner). OnOk r (AskedAll (owner_key o % n) (leave_entry o ∷ []) v w)) owner c.leave_port.ensures.gave in
    let planned = subst (λ (st : State). Leaves is_gone n m.owner.name (plans.drop_as st m plans.gone) v w k k r) (sym state)
    (port_leaves n m v w k c.args.worker.now.groups c.leave_port.new.passes r all c.leave_port.ensures.same) in
    subst (λ (s : Sock). Leaves is_gone n (mine_of s).owner.name (plans.drop (mine_of s) plans.gone) v w k k r) (sym c.in-Bound.is) planned

pub returns-in-Bound-clause-kept : goal.returns-in-Bound-clause-kept
returns-in-Bound-clause-kept g c =
    let t = c.args.tables.now in
    let v = turned c.args.worker.now in
    let w = known c.leave_port.new.pass in
    let k = side_of t.chains c.args.worker.now.chain in
    let r = c.leave_port.result in
    let m : Mine = c.in-Bound.field-0 in
    let stands : IsOwner t m.owner v = subst (λ (s : Sock). StandsAs t s v k) c.in-Bound.is c.requires.stands in
    subst (λ (s : Sock). OnErr r (StandsAs t s w k)) (sym c.in-Bound.is)
    (port_kept m (owner_key m.owner % buckets_of t) v w c.args.worker.now.groups c.leave_port.new.passes r stands c.leave_port.ensures.same)

pub returns-in-Bound-clause-lists : goal.returns-in-Bound-clause-lists
returns-in-Bound-clause-lists g c =
    let n = buckets_of c.args.tables.now in
    let v = turned c.args.worker.now in
    let w = known c.leave_port.new.pass in
    let p = c.args.worker.now.groups in
    let q = c.leave_port.new.passes in
    let r = c.leave_port.result in
    let m : Mine = c.in-Bound.field-0 in
    let owner : c.owner-owner.result.now ≡ m.owner = c.owner-owner.ensures.owner ∙ ap (λ (s : Sock). (mine_of s).owner) c.in-Bound.is in
    let leaves = subst (λ (o : Owner). OnOk r (LeavesAs (owner_key o % n) o w p q)) owner c.leave_port.ensures.lists in
    subst (λ (s : Sock). ListsOfLeave n s w p q r) (sym c.in-Bound.is) (port_lists n m v w p q r leaves c.leave_port.ensures.same)

pub returns-in-Bound-clause-patient : goal.returns-in-Bound-clause-patient
returns-in-Bound-clause-patient g c = λ endless. never_fails c.leave_port.result _ (c.leave_port.ensures.patient endless)

pub returns-in-Bound-clause-nothing : goal.returns-in-Bound-clause-nothing
returns-in-Bound-clause-nothing g c =
    port_nothing (turned c.args.worker.now) (known c.leave_port.new.pass) c.args.worker.now.groups c.leave_port.new.passes c.leave_port.result c.leave_port.ensures.same
