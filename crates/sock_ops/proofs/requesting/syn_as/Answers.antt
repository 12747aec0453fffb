use Rattle.std.proofs.Common.{◌+◌, ◌++◌, [], List, Err, ap, sym, subst, ◌∙◌, ◌%◌, refl}
use Rattle.turn_table.specs.Passes.{known}
use Rattle.sock_card.specs.declared.owner.Owner.{Owner}
use Rattle.bind_buckets.specs.Notes.{Note}
use Rattle.bind_buckets.specs.Bucket.{entries_of}
use Rattle.bind_buckets.specs.Turned.{made}
use Rattle.table_rule.specs.Calls.{HasShares}
use Rattle.table_rule.specs.Passes as chain_words
use Rattle.table_model.specs.Operations as plans
use Rattle.table_model.specs.Operations.{done, refused}
use Rattle.sock_ops.specs.Sides.{Side, side_of}
use Rattle.sock_ops.specs.Goes.{AskedAll, gone_of}
use Rattle.sock_ops.specs.Hashing.{InsertsAs, PutsIn, request_wish}
use Rattle.sock_ops.specs.Stands.{buckets_of, turned}
use Rattle.sock_ops.proofs.Goes.{asked_all, begun_not}
use Rattle.sock_ops.proofs.Inserted.{drawn_four}
use Rattle.sock_ops.proofs.ConnectGoes.{all_none}
use Rattle.sock_ops.proofs.SynGoes.{owners_stay, owners_still, request_hashed, syn_done, syn_refused}
use Rattle.sock_ops.proofs.requesting.syn_as.Goals as goal

pub returns-in-Ok-clause-carried : goal.returns-in-Ok-clause-carried
returns-in-Ok-clause-carried g c =
    let r : Owner = c.args.request in
    let t = c.args.tables.now in
    let n = buckets_of t in
    let v = turned c.args.worker.now in
    let w = known c.end_turn.new.pass in
    let d = side_of t.chains c.insert_request.new.pass in
    let came = c.in-Ok.came in
    let once = ap (λ (ms : List Note). entries_of ms) c.in_ok-turn.ensures.none in
    let place = c.in_ok-turn.ensures.place ∙ ap (λ k. k % n) c.bind_key-key.ensures in
    let end = c.end_turn.ensures.gave v c.in_ok-turn.ensures.within in
    let all = subst (λ at. AskedAll at (gone_of came.replaced end.0) v w) place
    (subst (λ es. AskedAll c.in_ok-turn.turn.place (es ++ gone_of came.replaced end.0) v w) once end.1) in
    let puts = subst (λ (k : Side). PutsIn (request_wish r) came.place came.replaced k d) c.begin.ensures.side c.in-Ok.ensures.inserts in
    syn_done n r v w (side_of t.chains c.args.worker.now.chain) d came.place came.replaced c.at_place.result end.0 puts c.at_place.ensures all

pub returns-in-Ok-clause-owners : goal.returns-in-Ok-clause-owners
returns-in-Ok-clause-owners g c =
    let t = c.args.tables.now in
    let v = turned c.args.worker.now in
    let w = known c.end_turn.new.pass in
    let came = c.in-Ok.came in
    let turn = c.in_ok-turn.turn in
    let once = ap (λ (ms : List Note). entries_of ms) c.in_ok-turn.ensures.none in
    let end = c.end_turn.ensures.gave v c.in_ok-turn.ensures.within in
    owners_stay t turn.place came.replaced end.0 v w (subst (λ es. AskedAll turn.place (es ++ gone_of came.replaced end.0) v w) once end.1)

pub returns-in-Ok-clause-stands : goal.returns-in-Ok-clause-stands
returns-in-Ok-clause-stands g c =
    let t = c.args.tables.now in
    let d = side_of t.chains c.insert_request.new.pass in
    let came = c.in-Ok.came in
    request_hashed c.args.request came.place came.replaced c.at_place.result (side_of t.chains c.begin.new.worker.chain) d c.in-Ok.ensures.inserts c.at_place.ensures refl

pub returns-in-Ok-clause-drawn : goal.returns-in-Ok-clause-drawn
returns-in-Ok-clause-drawn g c = λ more has.
    drawn_four c.insert_request.result (chain_words.known c.begin.new.worker.chain.pass) (chain_words.known c.insert_request.new.pass.pass) c.insert_request.ensures.share more
    (subst (λ (s : Side). HasShares (more + 4) s.view) (sym c.begin.ensures.side) has)

pub returns-in-Err-clause-drawn : goal.returns-in-Err-clause-drawn
returns-in-Err-clause-drawn g c = λ more has.
    drawn_four c.insert_request.result (chain_words.known c.begin.new.worker.chain.pass) (chain_words.known c.insert_request.new.pass.pass) c.insert_request.ensures.share more
    (subst (λ (s : Side). HasShares (more + 4) s.view) (sym c.begin.ensures.side) has)

pub returns-in-Err-clause-carried : goal.returns-in-Err-clause-carried
returns-in-Err-clause-carried g c =
    let r : Owner = c.args.request in
    let t = c.args.tables.now in
    let v = turned c.args.worker.now in
    let w = known c.give.new.pass in
    let d = side_of t.chains c.insert_request.new.pass in
    let turn = c.in_ok-turn.turn in
    let made_is = ap (λ (ms : List Note). entries_of ms) c.in_ok-turn.ensures.none in
    let gave = all_none turn.place v w (asked_all turn.place turn.place [] v w (made c.begin.new.worker.turns turn) refl made_is (c.give.ensures.gave v c.in_ok-turn.ensures.within)) in
    let ins = subst (λ (k : Side). InsertsAs (request_wish r) k d (Err c.in-Err.end)) c.begin.ensures.side c.in-Err.ensures.inserts in
    syn_refused (buckets_of t) r v w (side_of t.chains c.args.worker.now.chain) d c.in-Err.end ins gave

pub returns-in-Err-clause-owners : goal.returns-in-Err-clause-owners
returns-in-Err-clause-owners g c =
    let v = turned c.args.worker.now in
    let w = known c.give.new.pass in
    let turn = c.in_ok-turn.turn in
    let made_is = ap (λ (ms : List Note). entries_of ms) c.in_ok-turn.ensures.none in
    let gave = all_none turn.place v w (asked_all turn.place turn.place [] v w (made c.begin.new.worker.turns turn) refl made_is (c.give.ensures.gave v c.in_ok-turn.ensures.within)) in
    owners_still c.args.tables.now v w gave

pub returns-in_err-turn-clause-carried : goal.returns-in_err-turn-clause-carried
returns-in_err-turn-clause-carried g c =
    let r : Owner = c.args.request in
    let t = c.args.tables.now in
    let s = t.chains.layout in
    let old = c.args.worker.now in
    let new = c.begin.new.worker in
    begun_not done refused (buckets_of t) (plans.syn_as s.shape s.seed r) (turned old) (turned new) (side_of t.chains old.chain) (side_of t.chains new.chain) _ c.from_residual.result
    c.from_residual.ensures.1 c.begin.ensures.side tt c.in_err-turn.ensures.nothing
