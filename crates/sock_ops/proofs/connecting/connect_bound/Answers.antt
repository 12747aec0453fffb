use Rattle.std.proofs.Common.{◌+◌, ◌++◌, ◌∷◌, [], List, Err, ap, sym, subst, ◌∙◌, ◌%◌, refl, ℕ}
use Rattle.sock_card.specs.Conflict.{owner_key}
use Rattle.turn_table.specs.Passes.{known}
use Rattle.sock_card.specs.declared.owner.Owner.{Owner}
use Rattle.bind_buckets.specs.declared.request.Request.TheVariants as requests
use Rattle.bind_buckets.specs.declared.request.Answer.TheVariants as answers
use Rattle.bind_buckets.specs.declared.request.Entry.{Entry}
use Rattle.bind_buckets.specs.Notes.{Note}
use Rattle.bind_buckets.specs.Bucket.{entries_of}
use Rattle.bind_buckets.specs.OwnTold.{StandsOwn}
use Rattle.bind_buckets.specs.Turned.{made}
use Rattle.table_rule.specs.Calls.{HasShares}
use Rattle.table_rule.specs.Passes as chain_words
use Rattle.table_model.specs.Own.{Mine}
use Rattle.table_model.specs.Operations as plans
use Rattle.table_model.specs.Operations.{done, refused}
use Rattle.sock_ops.specs.Sides.{Side, side_of}
use Rattle.sock_ops.specs.Goes.{AskedAll, gone_of}
use Rattle.sock_ops.specs.Hashing.{InsertsAs, PutsIn, wish_for}
use Rattle.sock_ops.specs.Stands.{buckets_of, turned}
use Rattle.sock_ops.proofs.Goes.{asked_all, begun_not}
use Rattle.sock_ops.proofs.Inserted.{drawn_four}
use Rattle.sock_ops.proofs.ConnectGoes.{bound_entry, all_none, connect_done, connect_refused, connect_stands, hashed_at, stands_still}
use Rattle.sock_ops.proofs.connecting.connect_bound.Goals as goal

abbrev entry : ℕ → Owner → Entry
entry name a = record { request = requests.ConnectBound name a.addr a.remote a.rport; answer = answers.Done }

pub returns-in-Ok-clause-carried : goal.returns-in-Ok-clause-carried
returns-in-Ok-clause-carried g c =
    let a : Owner = c.args.full in
    let b : Owner = c.args.bound.now in
    let t = c.args.tables.now in
    let n = buckets_of t in
    let v = turned c.args.worker.now in
    let w = known c.end_turn.new.pass in
    let d = side_of t.chains c.insert.new.pass in
    let came = c.in-Ok.came in
    let asks = c.connect_bound.ensures.asks in
    let once = asks.made_is ∙ ap (λ (ms : List Note). entries_of ms ++ entry b.name a ∷ []) c.in_ok-turn.ensures.none ∙ ap (λ name. entry name a ∷ []) (sym (ap (λ (o : Owner). o.name) c.requires.full)) in
    let place = asks.place ∙ c.in_ok-turn.ensures.place ∙ ap (λ p. p % n) (sym (ap (λ (o : Owner). owner_key o) c.requires.full)) in
    let end = c.end_turn.ensures.gave v (asks.within v c.in_ok-turn.ensures.within) in
    let all = subst (λ at. AskedAll at (bound_entry a ∷ gone_of came.replaced end.0) v w) place
    (subst (λ es. AskedAll c.connect_bound.new.turn.place (es ++ gone_of came.replaced end.0) v w) once end.1) in
    let puts = subst (λ (k : Side). PutsIn (wish_for a c.args.moment c.args.rule) came.place came.replaced k d) c.begin_with.ensures.side c.in-Ok.ensures.inserts in
    connect_done n a c.args.moment c.args.rule v w (side_of t.chains c.args.worker.now.chain) d came.place came.replaced c.at_place.result end.0 puts c.at_place.ensures all

pub returns-in-Ok-clause-stands : goal.returns-in-Ok-clause-stands
returns-in-Ok-clause-stands g c =
    let a : Owner = c.args.full in
    let b : Owner = c.args.bound.now in
    let t = c.args.tables.now in
    let n = buckets_of t in
    let v = turned c.args.worker.now in
    let w = known c.end_turn.new.pass in
    let d = side_of t.chains c.insert.new.pass in
    let came = c.in-Ok.came in
    let asks = c.connect_bound.ensures.asks in
    let once = asks.made_is ∙ ap (λ (ms : List Note). entries_of ms ++ entry b.name a ∷ []) c.in_ok-turn.ensures.none ∙ ap (λ name. entry name a ∷ []) (sym (ap (λ (o : Owner). o.name) c.requires.full)) in
    let place = asks.place ∙ c.in_ok-turn.ensures.place ∙ ap (λ p. p % n) (sym (ap (λ (o : Owner). owner_key o) c.requires.full)) in
    let end = c.end_turn.ensures.gave v (asks.within v c.in_ok-turn.ensures.within) in
    let all = subst (λ at. AskedAll at (bound_entry a ∷ gone_of came.replaced end.0) v w) place
    (subst (λ es. AskedAll c.connect_bound.new.turn.place (es ++ gone_of came.replaced end.0) v w) once end.1) in
    let stands = connect_stands n b a v w came.replaced end.0 c.requires.full c.requires.stands all in (
      subst (λ (m : Mine). StandsOwn m.owner (owner_key m.owner % n) w) (sym c.at_place.ensures) stands,
      hashed_at a c.args.moment c.args.rule came.place came.replaced c.at_place.result (side_of t.chains c.begin_with.new.worker.chain) d c.in-Ok.ensures.inserts refl c.at_place.ensures,
    )

pub returns-in-Ok-clause-drawn : goal.returns-in-Ok-clause-drawn
returns-in-Ok-clause-drawn g c = λ more has.
    drawn_four c.insert.result (chain_words.known c.begin_with.new.worker.chain.pass) (chain_words.known c.insert.new.pass.pass) c.insert.ensures.share more
    (subst (λ (s : Side). HasShares (more + 4) s.view) (sym c.begin_with.ensures.side) has)

pub returns-in-Err-clause-drawn : goal.returns-in-Err-clause-drawn
returns-in-Err-clause-drawn g c = λ more has.
    drawn_four c.insert.result (chain_words.known c.begin_with.new.worker.chain.pass) (chain_words.known c.insert.new.pass.pass) c.insert.ensures.share more
    (subst (λ (s : Side). HasShares (more + 4) s.view) (sym c.begin_with.ensures.side) has)

pub returns-in-Err-clause-carried : goal.returns-in-Err-clause-carried
returns-in-Err-clause-carried g c =
    let a : Owner = c.args.full in
    let t = c.args.tables.now in
    let v = turned c.args.worker.now in
    let w = known c.give.new.pass in
    let d = side_of t.chains c.insert.new.pass in
    let turn = c.in_ok-turn.turn in
    let made_is = ap (λ (ms : List Note). entries_of ms) c.in_ok-turn.ensures.none in
    let gave = all_none turn.place v w (asked_all turn.place turn.place [] v w (made c.begin_with.new.worker.turns turn) refl made_is (c.give.ensures.gave v c.in_ok-turn.ensures.within)) in
    let ins = subst (λ (k : Side). InsertsAs (wish_for a c.args.moment c.args.rule) k d (Err c.in-Err.end)) c.begin_with.ensures.side c.in-Err.ensures.inserts in
    connect_refused (buckets_of t) a c.args.moment c.args.rule v w (side_of t.chains c.args.worker.now.chain) d c.in-Err.end ins gave

pub returns-in-Err-clause-kept : goal.returns-in-Err-clause-kept
returns-in-Err-clause-kept g c =
    let b : Owner = c.args.bound.now in
    let v = turned c.args.worker.now in
    let w = known c.give.new.pass in
    let turn = c.in_ok-turn.turn in
    let made_is = ap (λ (ms : List Note). entries_of ms) c.in_ok-turn.ensures.none in
    let gave = all_none turn.place v w (asked_all turn.place turn.place [] v w (made c.begin_with.new.worker.turns turn) refl made_is (c.give.ensures.gave v c.in_ok-turn.ensures.within)) in
    stands_still b (owner_key b % buckets_of c.args.tables.now) v w gave c.requires.stands

pub returns-in_err-turn-clause-carried : goal.returns-in_err-turn-clause-carried
returns-in_err-turn-clause-carried g c =
    let a : Owner = c.args.full in
    let t = c.args.tables.now in
    let l = t.chains.layout in
    let old = c.args.worker.now in
    let new = c.begin_with.new.worker in
    begun_not done refused (buckets_of t) (plans.connect_bound l.shape l.seed a c.args.moment c.args.rule) (turned old) (turned new) (side_of t.chains old.chain) (side_of t.chains new.chain) _ c.from_residual.result
    c.from_residual.ensures.1 c.begin_with.ensures.side tt c.in_err-turn.ensures.nothing
