use Rattle.std.proofs.Common.{◌+◌, ◌++◌, ◌∷◌, [], List, ap, sym, subst, ◌∙◌, ◌%◌}
use Rattle.sock_card.specs.Conflict.{owner_key}
use Rattle.turn_table.specs.Passes.{known}
use Rattle.bind_buckets.specs.Notes.{Note}
use Rattle.bind_buckets.specs.Bucket.{entries_of}
use Rattle.bind_buckets.specs.Turned.{made}
use Rattle.sock_ops.specs.Sides.{Side, side_of}
use Rattle.sock_ops.specs.Answers.{Removes}
use Rattle.nulls_chain.specs.Changes.{OthersStay}
use Rattle.table_rule.specs.Calls.{HasShares}
use Rattle.table_rule.specs.Passes as chain_words
use Rattle.table_model.specs.Asking.{unhashes}
use Rattle.table_model.specs.Operations as plans
use Rattle.sock_ops.specs.Closes.{is_gone, leave_entry, spot_of}
use Rattle.sock_ops.specs.Stands.{buckets_of, turned}
use Rattle.sock_ops.proofs.Goes.{asked_all, left_nowhere}
use Rattle.sock_ops.proofs.CloseGoes.{hashed_leaves, leaves_err, none_listed, none_stands}
use Rattle.reuseport_group.specs.Passes as lists
use Rattle.port_search.proofs.TurnSearch.{nothing_made}
use Rattle.sock_ops.specs.Groups.{LeavesAs}
use Rattle.sock_ops.proofs.ListTurns.{leaves_as, left_keeps}
use Rattle.sock_ops.proofs.leaving.leave_chain.Goals as goal

pub returns-in_err-turn-clause-carried : goal.returns-in_err-turn-clause-carried
returns-in_err-turn-clause-carried g c =
    let a = c.args.owner.now in
    let t = c.args.tables.now in
    let n = buckets_of t in
    let old = c.args.worker.now in
    let new = c.begin_with.new.worker in
    let k = side_of t.chains old.chain in
    let d = side_of t.chains new.chain in
    let plan = unhashes (spot_of c.args.place) c.args.place.card (plans.leave a plans.gone) in
    leaves_err is_gone n a.name plan (turned old) (turned new) k d c.from_residual.result c.from_residual.ensures.0
    (left_nowhere n a.name plan (turned old) (turned new) k d (sym c.begin_with.ensures.side) tt c.in_err-turn.ensures.nothing)

pub returns-in_default-clause-carried : goal.returns-in_default-clause-carried
returns-in_default-clause-carried g c =
    let a = c.args.owner.now in
    let t = c.args.tables.now in
    let v = turned c.args.worker.now in
    let w = known c.give.new.pass in
    let turn = c.in_ok-turn.turn in
    let none = nothing_made turn.place v w (made c.begin_with.new.worker.turns turn) c.in_ok-turn.ensures.none (c.give.ensures.gave v c.in_ok-turn.ensures.within) in
    left_nowhere (buckets_of t) a.name (unhashes (spot_of c.args.place) c.args.place.card (plans.leave a plans.gone)) v w (side_of t.chains c.args.worker.now.chain) (side_of t.chains c.lock_chain_of.new.pass)
    (sym (c.in_default.ensures.none ∙ c.begin_with.ensures.side)) tt none

pub returns-in_default-clause-nothing : goal.returns-in_default-clause-nothing
returns-in_default-clause-nothing g c =
    let v = turned c.args.worker.now in
    let w = known c.give.new.pass in
    let turn = c.in_ok-turn.turn in
    nothing_made turn.place v w (made c.begin_with.new.worker.turns turn) c.in_ok-turn.ensures.none (c.give.ensures.gave v c.in_ok-turn.ensures.within)

pub returns-in_default-clause-kept : goal.returns-in_default-clause-kept
returns-in_default-clause-kept g c =
    let a = c.args.owner.now in
    let v = turned c.args.worker.now in
    let w = known c.give.new.pass in
    let turn = c.in_ok-turn.turn in
    none_stands a (owner_key a % buckets_of c.args.tables.now) v w c.requires.stands
    (nothing_made turn.place v w (made c.begin_with.new.worker.turns turn) c.in_ok-turn.ensures.none (c.give.ensures.gave v c.in_ok-turn.ensures.within))

pub returns-in_default-clause-listed : goal.returns-in_default-clause-listed
returns-in_default-clause-listed g c =
    let v = turned c.args.worker.now in
    let w = known c.give.new.pass in
    let turn = c.in_ok-turn.turn in
    none_listed (lists.groups c.args.tables.now.groups) v w c.args.worker.now.groups c.begin_with.new.worker.groups c.begin_with.ensures.groups
    (nothing_made turn.place v w (made c.begin_with.new.worker.turns turn) c.in_ok-turn.ensures.none (c.give.ensures.gave v c.in_ok-turn.ensures.within))

pub remove-unhashed-requires-clause-room : goal.remove-unhashed-requires-clause-room
remove-unhashed-requires-clause-room g c = c.lock_chain_of.ensures.room 1 c.in_ok-turn.ensures.room

pub returns-clause-drawn : goal.returns-clause-drawn
returns-clause-drawn g c = λ more may.
    c.remove-unhashed.ensures.share (side_of c.args.tables.now.chains c.begin_with.new.worker.chain) c.in-Some.ensures.locked more
    (subst (λ (s : Side). HasShares (more + 2) s.view) (sym c.begin_with.ensures.side) may)

pub returns-clause-carried : goal.returns-clause-carried
returns-clause-carried g c =
    let a = c.args.owner.now in
    let t = c.args.tables.now in
    let n = buckets_of t in
    let v = turned c.args.worker.now in
    let w = known c.give-2.new.pass in
    let d = side_of t.chains c.remove-unhashed.new.pass in
    let removes : Removes c.args.place (side_of t.chains c.args.worker.now.chain) d =
    subst (λ (k : Side). Removes c.args.place k d) c.begin_with.ensures.side (c.remove-unhashed.ensures.removes (side_of t.chains c.begin_with.new.worker.chain) c.in-Some.ensures.locked) in
    let asks = c.leave-unlisted.ensures.asks in
    let once = asks.made_is ∙ ap (λ (ms : List Note). entries_of ms ++ leave_entry a ∷ []) c.in_ok-turn.ensures.none in
    let place = asks.place ∙ c.in_ok-turn.ensures.place in
    let all = asked_all c.leave-unlisted.new.turn.place (owner_key a % n) (leave_entry a ∷ []) v w (made c.leave-unlisted.new.pass c.leave-unlisted.new.turn) place once (c.give-2.ensures.gave v (asks.within v c.in_ok-turn.ensures.within)) in
    hashed_leaves n a v w c.args.place removes.unhash (side_of t.chains c.args.worker.now.chain) d removes.is removes.does all

pub returns-clause-lists : goal.returns-clause-lists
returns-clause-lists g c =
    let a = c.args.owner.now in
    let t = c.args.tables.now in
    let v = turned c.args.worker.now in
    let w = known c.give-2.new.pass in
    let p = c.begin_with.new.worker in
    let q = c.leave-unlisted.new.passes in
    let e = c.leave-unlisted.ensures in
    let o = c.in_ok-turn.ensures in
    let within = e.asks.within v o.within in
    subst (λ g. LeavesAs (owner_key a % buckets_of t) a w g q) c.begin_with.ensures.groups
    (subst (λ i. LeavesAs i a w p.groups q) o.place
    (leaves_as t.buckets p.turns c.in_ok-turn.turn c.leave-unlisted.new.pass c.leave-unlisted.new.turn a v w e.lists.0 p.groups q e.sound.0 e.sound.1 o.out e.asks
    within (c.give-2.ensures.gave v within) e.lists.1))

pub returns-clause-listed : goal.returns-clause-listed
returns-clause-listed g c =
    let a = c.args.owner.now in
    let t = c.args.tables.now in
    let v = turned c.args.worker.now in
    let w = known c.give-2.new.pass in
    let p = c.begin_with.new.worker in
    let q = c.leave-unlisted.new.passes in
    let e = c.leave-unlisted.ensures in
    let o = c.in_ok-turn.ensures in
    let within = e.asks.within v o.within in
    let leaves = subst (λ g. LeavesAs (owner_key a % buckets_of t) a w g q) c.begin_with.ensures.groups
    (subst (λ i. LeavesAs i a w p.groups q) o.place
    (leaves_as t.buckets p.turns c.in_ok-turn.turn c.leave-unlisted.new.pass c.leave-unlisted.new.turn a v w e.lists.0 p.groups q e.sound.0 e.sound.1 o.out e.asks
    within (c.give-2.ensures.gave v within) e.lists.1)) in
    let once = e.asks.made_is ∙ ap (λ (ms : List Note). entries_of ms ++ leave_entry a ∷ []) o.none in
    let all = asked_all c.leave-unlisted.new.turn.place (owner_key a % buckets_of t) (leave_entry a ∷ []) v w (made c.leave-unlisted.new.pass c.leave-unlisted.new.turn) (e.asks.place ∙ o.place) once (c.give-2.ensures.gave v within) in
    left_keeps (lists.groups t.groups) (owner_key a % buckets_of t) a v w c.args.worker.now.groups q all leaves

pub returns-clause-stay : goal.returns-clause-stay
returns-clause-stay g c =
    let t = c.args.tables.now in
    subst (λ (s : Side). OthersStay c.args.place.slot s.view (chain_words.known c.remove-unhashed.new.pass.pass)) c.begin_with.ensures.side
    (c.remove-unhashed.ensures.stay (side_of t.chains c.begin_with.new.worker.chain) c.in-Some.ensures.locked)
