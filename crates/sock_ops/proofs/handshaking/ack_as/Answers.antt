use Rattle.std.proofs.Common.{◌≡◌, ◌+◌, ◌++◌, ◌∷◌, [], List, Ok, Err, None, ap, sym, subst, ◌∙◌, ◌%◌, refl}
use Rattle.sock_card.specs.Conflict.{owner_key}
use Rattle.sock_card.specs.declared.card.Kind.TheVariants as kinds
use Rattle.sock_card.specs.declared.owner.Owner.{Owner}
use Rattle.turn_table.specs.Passes.{known}
use Rattle.bind_buckets.specs.Notes.{Note}
use Rattle.bind_buckets.specs.Bucket.{entries_of}
use Rattle.bind_buckets.specs.OwnTold.{StandsOwn}
use Rattle.bind_buckets.specs.Turned.{made}
use Rattle.bind_buckets.specs.declared.request.Answer.TheVariants as answers
use Rattle.nulls_chain.specs.Changes.{OthersStay}
use Rattle.table_rule.specs.Calls.{HasShares}
use Rattle.table_model.specs.Own.{Mine}
use Rattle.table_model.specs.Operations as plans
use Rattle.table_model.specs.Operations.{done, full_card, refused}
use Rattle.sock_ops.specs.Sides.{Side, side_of}
use Rattle.sock_ops.specs.Handshaking.{HandsOver}
use Rattle.sock_ops.specs.Stands.{buckets_of, place_in, turned}
use Rattle.sock_ops.proofs.Goes.{asked_all, begun_not}
use Rattle.sock_ops.proofs.ConnectGoes.{all_none, stands_still}
use Rattle.sock_ops.proofs.AcceptGoes.{child_entry, child_stands, parent_stands}
use Rattle.sock_ops.proofs.AckGoes.{ack_done, ack_refused, child_hashed}
use Rattle.sock_ops.proofs.handshaking.ack_as.Goals as goal

pub returns-in-Ok-clause-carried : goal.returns-in-Ok-clause-carried
returns-in-Ok-clause-carried g c =
    let a : Owner = c.args.child in
    let l : Owner = c.args.listener.now in
    let r : Mine = c.args.request.now in
    let t = c.args.tables.now in
    let n = buckets_of t in
    let v = turned c.args.worker.now in
    let w = known c.give.new.pass in
    let d = side_of t.chains c.hand_over.new.pass in
    let asks = c.inherit.ensures.asks in
    let once = asks.made_is ∙ ap (λ (ms : List Note). entries_of ms ++ child_entry l a ∷ []) c.in_ok-turn.ensures.none in
    let place = asks.place ∙ c.in_ok-turn.ensures.place in
    let all = asked_all c.inherit.new.turn.place (owner_key l % n) (child_entry l a ∷ []) v w (made c.inherit.new.pass c.inherit.new.turn) place once (c.give.ensures.gave v (asks.within v c.in_ok-turn.ensures.within)) in
    let takes = subst (λ (k : Side). HandsOver (place_in kinds.Request r) (full_card a) k d (Ok c.in-Ok.place)) c.begin_with.ensures.side c.in-Ok.ensures.hands in
    ack_done n r l a v w (side_of t.chains c.args.worker.now.chain) d c.in-Ok.place c.at_place.result takes c.at_place.ensures all

pub returns-in-Ok-clause-stands : goal.returns-in-Ok-clause-stands
returns-in-Ok-clause-stands g c =
    let a : Owner = c.args.child in
    let l : Owner = c.args.listener.now in
    let r : Mine = c.args.request.now in
    let t = c.args.tables.now in
    let n = buckets_of t in
    let v = turned c.args.worker.now in
    let w = known c.give.new.pass in
    let d = side_of t.chains c.hand_over.new.pass in
    let asks = c.inherit.ensures.asks in
    let once = asks.made_is ∙ ap (λ (ms : List Note). entries_of ms ++ child_entry l a ∷ []) c.in_ok-turn.ensures.none in
    let place = asks.place ∙ c.in_ok-turn.ensures.place in
    let all = asked_all c.inherit.new.turn.place (owner_key l % n) (child_entry l a ∷ []) v w (made c.inherit.new.pass c.inherit.new.turn) place once (c.give.ensures.gave v (asks.within v c.in_ok-turn.ensures.within)) in
    let port : owner_key l ≡ owner_key a = sym (ap (λ (o : Owner). owner_key o) c.requires.child) in
    let stands = subst (λ p. StandsOwn a (p % n) w) port (child_stands l a (owner_key l % n) v w None answers.Done c.requires.stands all c.requires.child c.requires.may c.requires.new) in (
      subst (λ (m : Mine). StandsOwn m.owner (owner_key m.owner % n) w) (sym c.at_place.ensures) stands,
      child_hashed r a c.in-Ok.place c.at_place.result (side_of t.chains c.begin_with.new.worker.chain) d c.in-Ok.ensures.hands c.at_place.ensures refl,
    )

pub returns-in-Ok-clause-listener : goal.returns-in-Ok-clause-listener
returns-in-Ok-clause-listener g c =
    let a : Owner = c.args.child in
    let l : Owner = c.args.listener.now in
    let n = buckets_of c.args.tables.now in
    let v = turned c.args.worker.now in
    let w = known c.give.new.pass in
    let asks = c.inherit.ensures.asks in
    let once = asks.made_is ∙ ap (λ (ms : List Note). entries_of ms ++ child_entry l a ∷ []) c.in_ok-turn.ensures.none in
    let place = asks.place ∙ c.in_ok-turn.ensures.place in
    let all = asked_all c.inherit.new.turn.place (owner_key l % n) (child_entry l a ∷ []) v w (made c.inherit.new.pass c.inherit.new.turn) place once (c.give.ensures.gave v (asks.within v c.in_ok-turn.ensures.within)) in
    parent_stands l a (owner_key l % n) v w None answers.Done c.requires.stands all

pub returns-in-Ok-clause-drawn : goal.returns-in-Ok-clause-drawn
returns-in-Ok-clause-drawn g c = λ more has.
    c.hand_over.ensures.share more (subst (λ (s : Side). HasShares (more + 4) s.view) (sym c.begin_with.ensures.side) has)

pub returns-in-Ok-clause-stay : goal.returns-in-Ok-clause-stay
returns-in-Ok-clause-stay g c =
    let t = c.args.tables.now in
    subst (λ (k : Side). OthersStay c.args.request.now.place.slot k.view (side_of t.chains c.hand_over.new.pass).view) c.begin_with.ensures.side c.hand_over.ensures.stay

pub returns-in-Err-clause-drawn : goal.returns-in-Err-clause-drawn
returns-in-Err-clause-drawn g c = λ more has.
    c.hand_over.ensures.share more (subst (λ (s : Side). HasShares (more + 4) s.view) (sym c.begin_with.ensures.side) has)

pub returns-in-Err-clause-carried : goal.returns-in-Err-clause-carried
returns-in-Err-clause-carried g c =
    let a : Owner = c.args.child in
    let l : Owner = c.args.listener.now in
    let r : Mine = c.args.request.now in
    let t = c.args.tables.now in
    let v = turned c.args.worker.now in
    let w = known c.give-in-Err.new.pass in
    let d = side_of t.chains c.hand_over.new.pass in
    let turn = c.in_ok-turn.turn in
    let made_is = ap (λ (ms : List Note). entries_of ms) c.in_ok-turn.ensures.none in
    let gave = all_none turn.place v w (asked_all turn.place turn.place [] v w (made c.begin_with.new.worker.turns turn) refl made_is (c.give-in-Err.ensures.gave v c.in_ok-turn.ensures.within)) in
    let none = subst (λ (k : Side). HandsOver (place_in kinds.Request r) (full_card a) k d (Err c.in-Err.end)) c.begin_with.ensures.side c.in-Err.ensures.hands in
    ack_refused (buckets_of t) r l a v w (side_of t.chains c.args.worker.now.chain) d c.in-Err.end none gave

pub returns-in-Err-clause-listener : goal.returns-in-Err-clause-listener
returns-in-Err-clause-listener g c =
    let l : Owner = c.args.listener.now in
    let v = turned c.args.worker.now in
    let w = known c.give-in-Err.new.pass in
    let turn = c.in_ok-turn.turn in
    let made_is = ap (λ (ms : List Note). entries_of ms) c.in_ok-turn.ensures.none in
    let gave = all_none turn.place v w (asked_all turn.place turn.place [] v w (made c.begin_with.new.worker.turns turn) refl made_is (c.give-in-Err.ensures.gave v c.in_ok-turn.ensures.within)) in
    stands_still l (owner_key l % buckets_of c.args.tables.now) v w gave c.requires.stands

pub returns-in_err-turn-clause-carried : goal.returns-in_err-turn-clause-carried
returns-in_err-turn-clause-carried g c =
    let a : Owner = c.args.child in
    let t = c.args.tables.now in
    let s = t.chains.layout in
    let old = c.args.worker.now in
    let new = c.begin_with.new.worker in
    begun_not done refused (buckets_of t) (plans.ack_as s.shape s.seed c.args.request.now c.args.listener.now a) (turned old) (turned new) (side_of t.chains old.chain) (side_of t.chains new.chain) _ c.from_residual.result
    c.from_residual.ensures.1 c.begin_with.ensures.side tt c.in_err-turn.ensures.nothing
