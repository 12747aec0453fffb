use Rattle.std.proofs.Common.{◌≡◌, ◌+◌, ◌%◌, OnErr, sym, subst}
use Rattle.sock_card.specs.Conflict.{owner_key}
use Rattle.sock_card.specs.declared.card.Kind.TheVariants as kinds
use Rattle.sock_ops.specs.Sides.{Side, side_of}
use Rattle.nulls_chain.specs.Changes.{OthersStay}
use Rattle.table_rule.specs.Calls.{HasShares}
use Rattle.table_model.specs.Own.{Mine}
use Rattle.table_model.specs.Operations as plans
use Rattle.sock_ops.specs.Closes.{Leaves, became}
use Rattle.sock_ops.specs.Stands.{IsHashed, buckets_of, turned}
use Rattle.sock_ops.proofs.Goes.{left_nowhere}
use Rattle.sock_ops.proofs.CloseGoes.{leaves_err, never_fails, turn_leaves, turn_kept, turn_nothing}
use Rattle.reuseport_group.specs.Passes as lists
use Rattle.sock_ops.specs.Groups.{KeepsListed, LeavesOrStays}
use Rattle.sock_ops.proofs.leaving.close_full.Goals as goal

pub returns-in_err-turn-clause-carried : goal.returns-in_err-turn-clause-carried
returns-in_err-turn-clause-carried g c =
    let m : Mine = c.args.full.now in
    let t = c.args.tables.now in
    let n = buckets_of t in
    let l = t.chains.layout in
    let v = turned c.args.worker.now in
    let w = turned c.begin_with.new.worker in
    let k = side_of t.chains c.args.worker.now.chain in
    let d = side_of t.chains c.begin_with.new.worker.chain in
    let plan = plans.close_full l.shape l.seed m (plans.wait_of m c.args.moment) in
    leaves_err became n m.owner.name plan v w k d c.from_residual.result c.from_residual.ensures.0
    (left_nowhere n m.owner.name plan v w k d (sym c.begin_with.ensures.side) tt c.in_err-turn.ensures.nothing)

pub returns-clause-drawn : goal.returns-clause-drawn
returns-clause-drawn g c = λ more may.
    c.wait_in.ensures.drawn more (subst (λ (s : Side). HasShares (more + 4) s.view) (sym c.begin_with.ensures.side) may)

pub returns-clause-carried : goal.returns-clause-carried
returns-clause-carried g c =
    let m : Mine = c.args.full.now in
    let t = c.args.tables.now in
    let l = t.chains.layout in
    let plan = plans.close_full l.shape l.seed m (plans.wait_of m c.args.moment) in
    let p = c.begin_with.new.worker in
    let u = c.wait_in.new.worker in
    let e = c.wait_in.ensures in
    subst (λ (k : Side). Leaves became (buckets_of t) m.owner.name plan (turned c.args.worker.now) (turned u) k (side_of t.chains u.chain) c.wait_in.result) c.begin_with.ensures.side
    (turn_leaves became (buckets_of t) m.owner.name plan (turned p) (turned c.args.worker.now) (turned u) (side_of t.chains p.chain) (side_of t.chains u.chain) c.wait_in.result tt c.in_ok-turn.ensures.within e.went e.nothing e.side)

pub returns-clause-kept : goal.returns-clause-kept
returns-clause-kept g c =
    let m : Mine = c.args.full.now in
    let t = c.args.tables.now in
    let p = c.begin_with.new.worker in
    let u = c.wait_in.new.worker in
    let e = c.wait_in.ensures in
    let hashed = subst (IsHashed kinds.Full m) (sym c.begin_with.ensures.side) c.requires.hashed in
    turn_kept kinds.Full m (owner_key m.owner % buckets_of t) (turned p) (turned c.args.worker.now) (turned u) (side_of t.chains p.chain) (side_of t.chains u.chain) c.wait_in.result c.in_ok-turn.ensures.within c.requires.stands hashed e.nothing e.side

pub returns-clause-nothing : goal.returns-clause-nothing
returns-clause-nothing g c =
    turn_nothing (turned c.begin_with.new.worker) (turned c.args.worker.now) (turned c.wait_in.new.worker) c.wait_in.result c.in_ok-turn.ensures.within c.wait_in.ensures.nothing

pub returns-clause-side : goal.returns-clause-side
returns-clause-side g c =
    let t = c.args.tables.now in
    let u = c.wait_in.new.worker in
    subst (λ (k : Side). OnErr c.wait_in.result (side_of t.chains u.chain ≡ k)) c.begin_with.ensures.side c.wait_in.ensures.side

pub returns-clause-lists : goal.returns-clause-lists
returns-clause-lists g c =
    let m : Mine = c.args.full.now in
    let u = c.wait_in.new.worker in
    subst (λ p. LeavesOrStays (owner_key m.owner % buckets_of c.args.tables.now) m.owner (turned u) p u.groups) c.begin_with.ensures.groups
    (c.wait_in.ensures.lists (turned c.args.worker.now) c.in_ok-turn.ensures.within)

pub returns-clause-listed : goal.returns-clause-listed
returns-clause-listed g c =
    let v = turned c.args.worker.now in
    let u = c.wait_in.new.worker in
    subst (λ p. KeepsListed (lists.groups c.args.tables.now.groups) v (turned u) p u.groups) c.begin_with.ensures.groups
    (c.wait_in.ensures.listed v c.in_ok-turn.ensures.within)

pub returns-clause-stay : goal.returns-clause-stay
returns-clause-stay g c =
    let u = c.wait_in.new.worker in
    subst (λ (s : Side). OthersStay c.args.full.now.place.slot s.view (side_of c.args.tables.now.chains u.chain).view) c.begin_with.ensures.side c.wait_in.ensures.stay

pub returns-clause-patient : goal.returns-clause-patient
returns-clause-patient g c = λ endless. never_fails c.wait_in.result _ (c.wait_in.ensures.patient endless)
