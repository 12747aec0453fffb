use Rattle.std.proofs.Common.{◌≡◌, ◌+◌, ◌++◌, ◌∷◌, [], List, Err, ap, sym, subst, ◌∙◌, ◌%◌, refl}
use Rattle.sock_card.specs.Conflict.{owner_key}
use Rattle.turn_table.specs.Passes.{known}
use Rattle.sock_card.specs.declared.owner.Owner.{Owner}
use Rattle.bind_buckets.specs.Notes.{Note}
use Rattle.bind_buckets.specs.Bucket.{entries_of}
use Rattle.bind_buckets.specs.OwnTold.{StandsOwn}
use Rattle.bind_buckets.specs.Turned.{made}
use Rattle.chain_book.specs.declared.outcome.Replace.TheVariants as rules
use Rattle.table_rule.specs.Calls.{HasShares}
use Rattle.table_rule.specs.Passes as chain_words
use Rattle.table_model.specs.Own.{Mine}
use Rattle.table_model.specs.Operations as plans
use Rattle.table_model.specs.Operations.{done, refused}
use Rattle.sock_ops.specs.Sides.{Side, side_of}
use Rattle.sock_ops.specs.Goes.{AskedAll, gone_of}
use Rattle.sock_ops.specs.Hashing.{InsertsAs, PutsIn, wish_for}
use Rattle.sock_ops.specs.Stands.{buckets_of, turned}
use Rattle.sock_ops.proofs.Goes.{asked_all, begun_not}
use Rattle.sock_ops.proofs.Inserted.{drawn_four}
use Rattle.sock_ops.proofs.ConnectGoes.{all_none, hashed_at, stands_still}
use Rattle.sock_ops.proofs.AcceptGoes.{child_entry, accept_done, accept_refused, child_stands, parent_stands}
use Rattle.sock_ops.proofs.accepting.accept_as.Goals as goal

pub returns-in-Ok-clause-carried : goal.returns-in-Ok-clause-carried
returns-in-Ok-clause-carried g c =
    let a : Owner = c.args.child in
    let l : Owner = c.args.listener.now in
    let t = c.args.tables.now in
    let n = buckets_of t in
    let v = turned c.args.worker.now in
    let w = known c.end_turn.new.pass in
    let d = side_of t.chains c.insert.new.pass in
    let came = c.in-Ok.came in
    let asks = c.inherit.ensures.asks in
    let once = asks.made_is ∙ ap (λ (ms : List Note). entries_of ms ++ child_entry l a ∷ []) c.in_ok-turn.ensures.none in
    let place = asks.place ∙ c.in_ok-turn.ensures.place in
    let end = c.end_turn.ensures.gave v (asks.within v c.in_ok-turn.ensures.within) in
    let all = subst (λ at. AskedAll at (child_entry l a ∷ gone_of came.replaced end.0) v w) place
    (subst (λ es. AskedAll c.inherit.new.turn.place (es ++ gone_of came.replaced end.0) v w) once end.1) in
    let puts = subst (λ (k : Side). PutsIn (wish_for a 0 rules.Always) came.place came.replaced k d) c.begin_with.ensures.side c.in-Ok.ensures.inserts in
    accept_done n l a (ap (λ (o : Owner). owner_key o) c.requires.child) v w (side_of t.chains c.args.worker.now.chain) d came.place came.replaced c.at_place.result end.0 puts c.at_place.ensures all

pub returns-in-Ok-clause-stands : goal.returns-in-Ok-clause-stands
returns-in-Ok-clause-stands g c =
    let a : Owner = c.args.child in
    let l : Owner = c.args.listener.now in
    let t = c.args.tables.now in
    let n = buckets_of t in
    let v = turned c.args.worker.now in
    let w = known c.end_turn.new.pass in
    let d = side_of t.chains c.insert.new.pass in
    let came = c.in-Ok.came in
    let asks = c.inherit.ensures.asks in
    let once = asks.made_is ∙ ap (λ (ms : List Note). entries_of ms ++ child_entry l a ∷ []) c.in_ok-turn.ensures.none in
    let place = asks.place ∙ c.in_ok-turn.ensures.place in
    let end = c.end_turn.ensures.gave v (asks.within v c.in_ok-turn.ensures.within) in
    let all = subst (λ at. AskedAll at (child_entry l a ∷ gone_of came.replaced end.0) v w) place
    (subst (λ es. AskedAll c.inherit.new.turn.place (es ++ gone_of came.replaced end.0) v w) once end.1) in
    let port : owner_key l ≡ owner_key a = sym (ap (λ (o : Owner). owner_key o) c.requires.child) in
    let stands = subst (λ p. StandsOwn a (p % n) w) port (child_stands l a (owner_key l % n) v w came.replaced end.0 c.requires.stands all c.requires.child c.requires.may c.requires.new) in (
      subst (λ (m : Mine). StandsOwn m.owner (owner_key m.owner % n) w) (sym c.at_place.ensures) stands,
      hashed_at a 0 rules.Always came.place came.replaced c.at_place.result (side_of t.chains c.begin_with.new.worker.chain) d c.in-Ok.ensures.inserts refl c.at_place.ensures,
    )

pub returns-in-Ok-clause-listener : goal.returns-in-Ok-clause-listener
returns-in-Ok-clause-listener g c =
    let a : Owner = c.args.child in
    let l : Owner = c.args.listener.now in
    let t = c.args.tables.now in
    let n = buckets_of t in
    let v = turned c.args.worker.now in
    let w = known c.end_turn.new.pass in
    let came = c.in-Ok.came in
    let asks = c.inherit.ensures.asks in
    let once = asks.made_is ∙ ap (λ (ms : List Note). entries_of ms ++ child_entry l a ∷ []) c.in_ok-turn.ensures.none in
    let place = asks.place ∙ c.in_ok-turn.ensures.place in
    let end = c.end_turn.ensures.gave v (asks.within v c.in_ok-turn.ensures.within) in
    let all = subst (λ at. AskedAll at (child_entry l a ∷ gone_of came.replaced end.0) v w) place
    (subst (λ es. AskedAll c.inherit.new.turn.place (es ++ gone_of came.replaced end.0) v w) once end.1) in
    parent_stands l a (owner_key l % n) v w came.replaced end.0 c.requires.stands all

pub returns-in-Ok-clause-drawn : goal.returns-in-Ok-clause-drawn
returns-in-Ok-clause-drawn g c = λ more has.
    drawn_four c.insert.result (chain_words.known c.begin_with.new.worker.chain.pass) (chain_words.known c.insert.new.pass.pass) c.insert.ensures.share more
    (subst (λ (s : Side). HasShares (more + 4) s.view) (sym c.begin_with.ensures.side) has)

pub returns-in-Err-clause-drawn : goal.returns-in-Err-clause-drawn
returns-in-Err-clause-drawn g c = λ more has.
    drawn_four c.insert.result (chain_words.known c.begin_with.new.worker.chain.pass) (chain_words.known c.insert.new.pass.pass) c.insert.ensures.share more
    (subst (λ (s : Side). HasShares (more + 4) s.view) (sym c.begin_with.ensures.side) has)

pub returns-in-Err-clause-carried : goal.returns-in-Err-clause-carried
returns-in-Err-clause-carried g c =
    let a : Owner = c.args.child in
    let t = c.args.tables.now in
    let v = turned c.args.worker.now in
    let w = known c.give.new.pass in
    let d = side_of t.chains c.insert.new.pass in
    let turn = c.in_ok-turn.turn in
    let made_is = ap (λ (ms : List Note). entries_of ms) c.in_ok-turn.ensures.none in
    let gave = all_none turn.place v w (asked_all turn.place turn.place [] v w (made c.begin_with.new.worker.turns turn) refl made_is (c.give.ensures.gave v c.in_ok-turn.ensures.within)) in
    let ins = subst (λ (k : Side). InsertsAs (wish_for a 0 rules.Always) k d (Err c.in-Err.end)) c.begin_with.ensures.side c.in-Err.ensures.inserts in
    accept_refused (buckets_of t) c.args.listener.now a (ap (λ (o : Owner). owner_key o) c.requires.child) v w (side_of t.chains c.args.worker.now.chain) d c.in-Err.end ins gave

pub returns-in-Err-clause-listener : goal.returns-in-Err-clause-listener
returns-in-Err-clause-listener g c =
    let l : Owner = c.args.listener.now in
    let v = turned c.args.worker.now in
    let w = known c.give.new.pass in
    let turn = c.in_ok-turn.turn in
    let made_is = ap (λ (ms : List Note). entries_of ms) c.in_ok-turn.ensures.none in
    let gave = all_none turn.place v w (asked_all turn.place turn.place [] v w (made c.begin_with.new.worker.turns turn) refl made_is (c.give.ensures.gave v c.in_ok-turn.ensures.within)) in
    stands_still l (owner_key l % buckets_of c.args.tables.now) v w gave c.requires.stands

pub returns-in_err-turn-clause-carried : goal.returns-in_err-turn-clause-carried
returns-in_err-turn-clause-carried g c =
    let a : Owner = c.args.child in
    let t = c.args.tables.now in
    let s = t.chains.layout in
    let old = c.args.worker.now in
    let new = c.begin_with.new.worker in
    begun_not done refused (buckets_of t) (plans.accept_as s.shape s.seed c.args.listener.now a) (turned old) (turned new) (side_of t.chains old.chain) (side_of t.chains new.chain) _ c.from_residual.result
    c.from_residual.ensures.1 c.begin_with.ensures.side tt c.in_err-turn.ensures.nothing
