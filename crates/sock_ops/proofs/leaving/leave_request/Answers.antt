use Rattle.std.proofs.Common.{◌+◌, sym, subst, ◌∙◌}
use Rattle.sock_card.specs.declared.card.Kind.TheVariants as kinds
use Rattle.port_search.proofs.TurnSearch.{gave_none}
use Rattle.nulls_chain.specs.declared.keeping.Place.{Place as Stood}
use Rattle.nulls_chain.specs.Changes.{OthersStay}
use Rattle.table_rule.specs.Calls.{HasShares}
use Rattle.table_rule.specs.Passes as chain_words
use Rattle.table_model.specs.Asking.{ends, unhashes}
use Rattle.table_model.specs.Own.{Mine, card_of}
use Rattle.table_model.specs.Operations as plans
use Rattle.sock_ops.specs.Answers.{Removes}
use Rattle.sock_ops.specs.Sides.{Side, side_of}
use Rattle.sock_ops.specs.Closes.{is_gone}
use Rattle.sock_ops.specs.Stands.{buckets_of, place_in, turned}
use Rattle.sock_ops.proofs.CloseGoes.{leaves_err, request_leaves}
use Rattle.sock_ops.proofs.Goes.{left_nowhere}
use Rattle.sock_ops.proofs.leaving.leave_request.Goals as goal

pub returns-in_err-reserve-clause-carried : goal.returns-in_err-reserve-clause-carried
returns-in_err-reserve-clause-carried g c =
    let m : Mine = c.args.request.now in
    let t = c.args.tables.now in
    let n = buckets_of t in
    let v = turned c.args.worker.now in
    let k = side_of t.chains c.args.worker.now.chain in
    let d = side_of t.chains c.reserve.new.self in
    let plan = unhashes m.place (card_of kinds.Request m) (ends plans.gone) in
    leaves_err is_gone n m.owner.name plan v v k d c.from_residual.result c.from_residual.ensures.0 (left_nowhere n m.owner.name plan v v k d (sym c.reserve.ensures.same) tt (gave_none v))

pub returns-in_default-clause-carried : goal.returns-in_default-clause-carried
returns-in_default-clause-carried g c =
    let m : Mine = c.args.request.now in
    let t = c.args.tables.now in
    let v = turned c.args.worker.now in
    left_nowhere (buckets_of t) m.owner.name (unhashes m.place (card_of kinds.Request m) (ends plans.gone)) v v (side_of t.chains c.args.worker.now.chain) (side_of t.chains c.lock_chain_of.new.pass)
    (sym (c.in_default.ensures.none ∙ c.reserve.ensures.same)) tt (gave_none v)

pub returns-clause-drawn : goal.returns-clause-drawn
returns-clause-drawn g c = λ more may.
    c.remove.ensures.share (side_of c.args.tables.now.chains c.reserve.new.self) c.in-Some.ensures.locked more
    (subst (λ (s : Side). HasShares (more + 2) s.view) (sym c.reserve.ensures.same) may)

pub remove-requires-clause-room : goal.remove-requires-clause-room
remove-requires-clause-room g c = c.lock_chain_of.ensures.room 1 c.in_ok-reserve.ensures.room

pub returns-clause-carried : goal.returns-clause-carried
returns-clause-carried g c =
    let m : Mine = c.args.request.now in
    let t = c.args.tables.now in
    let k = side_of t.chains c.reserve.new.self in
    let d = side_of t.chains c.remove.new.pass in
    let removes : Removes (place_in kinds.Request m) k d = subst (λ (p : Stood). Removes p k d) c.request_place-place.ensures (c.remove.ensures.removes k c.in-Some.ensures.locked) in
    request_leaves (buckets_of t) m (turned c.args.worker.now) (side_of t.chains c.args.worker.now.chain) d (subst (λ (s : Side). Removes (place_in kinds.Request m) s d) c.reserve.ensures.same removes)

pub returns-clause-stay : goal.returns-clause-stay
returns-clause-stay g c =
    let t = c.args.tables.now in
    let w = chain_words.known c.remove.new.pass.pass in
    let k = side_of t.chains c.reserve.new.self in
    let stay = subst (λ (p : Stood). OthersStay p.slot k.view w) c.request_place-place.ensures (c.remove.ensures.stay k c.in-Some.ensures.locked) in
    subst (λ (s : Side). OthersStay c.args.request.now.place.slot s.view w) c.reserve.ensures.same stay
