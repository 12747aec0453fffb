use Rattle.std.proofs.Common.{◌+◌, ◌++◌, ◌∷◌, [], List, ap, sym, subst, ◌∙◌, ◌%◌}
use Rattle.sock_card.specs.Conflict.{owner_key}
use Rattle.turn_table.specs.Passes.{known}
use Rattle.bind_buckets.specs.declared.request.Answer.TheVariants as answers
use Rattle.bind_buckets.specs.Notes.{Note}
use Rattle.bind_buckets.specs.Bucket.{entries_of}
use Rattle.bind_buckets.specs.Turned.{made}
use Rattle.table_rule.specs.Calls.{HasShares}
use Rattle.sock_ops.specs.Sides.{Side, side_of}
use Rattle.sock_ops.specs.declared.tables.Worker.{Worker}
use Rattle.sock_ops.specs.Searching.{free_entry, TriesAt}
use Rattle.sock_ops.specs.Stands.{buckets_of, turned}
use Rattle.sock_ops.proofs.Goes.{asked_all}
use Rattle.sock_ops.proofs.SearchGoes.{held_entry, tries_held, tries_not, keeps_from, try_away, still_away}
use Rattle.sock_ops.proofs.searching.connect_at.Goals as goal

pub returns-in-Ok-clause-drawn : goal.returns-in-Ok-clause-drawn
returns-in-Ok-clause-drawn g c = λ more has.
    c.connect_in.ensures.drawn more (subst (λ (s : Side). HasShares (more + 4) s.view) (sym c.begin.ensures.side) has)

pub returns-in-Ok-clause-keeps : goal.returns-in-Ok-clause-keeps
returns-in-Ok-clause-keeps g c =
    let x : Worker = record { turns = c.free.new.pass; chain = c.begin.new.worker.chain; groups = c.begin.new.worker.groups } in
    keeps_from c.args.worker.now x c.connect_in.new.worker c.connect_in.result (λ n has. subst (λ (s : Side). HasShares n s.view) (sym c.begin.ensures.side) has) c.connect_in.ensures.keeps

pub returns-in-Ok-clause-tries : goal.returns-in-Ok-clause-tries
returns-in-Ok-clause-tries g c =
    let a = c.args.full in
    let t = c.args.tables.now in
    let v = turned c.args.worker.now in
    let asks = c.in-Ok.ensures.asks in
    let once = asks.made_is ∙ ap (λ (ms : List Note). entries_of ms ++ free_entry a ∷ []) c.in_ok-turn.ensures.none in
    subst (λ (k : Side). TriesAt (buckets_of t) t.chains.layout a c.args.moment c.args.rule v (turned c.connect_in.new.worker) k (side_of t.chains c.connect_in.new.worker.chain) c.connect_in.result) c.begin.ensures.side
    (c.connect_in.ensures.tries v (asks.within v c.in_ok-turn.ensures.within) once)

pub returns-in-Ok-clause-leaves : goal.returns-in-Ok-clause-leaves
returns-in-Ok-clause-leaves g c =
    let v = turned c.args.worker.now in
    let asks = c.in-Ok.ensures.asks in
    let once = asks.made_is ∙ ap (λ (ms : List Note). entries_of ms ++ free_entry c.args.full ∷ []) c.in_ok-turn.ensures.none in
    c.connect_in.ensures.leaves v (asks.within v c.in_ok-turn.ensures.within) once c.requires.away

pub returns-in-Err-clause-tries : goal.returns-in-Err-clause-tries
returns-in-Err-clause-tries g c =
    let a = c.args.full in
    let t = c.args.tables.now in
    let n = buckets_of t in
    let v = turned c.args.worker.now in
    let w = known c.give.new.pass in
    let asks = c.in-Err.ensures.asks in
    let name = c.in-Err.field-0.0 in
    let once = asks.made_is ∙ ap (λ (ms : List Note). entries_of ms ++ held_entry a name ∷ []) c.in_ok-turn.ensures.none in
    let place = asks.place ∙ c.in_ok-turn.ensures.place ∙ ap (λ k. k % n) c.bind_key-key.ensures in
    let all = asked_all c.free.new.turn.place (owner_key a % n) (held_entry a name ∷ []) v w (made c.free.new.pass c.free.new.turn) place once
    (c.give.ensures.gave v (asks.within v c.in_ok-turn.ensures.within)) in
    tries_held n a c.args.moment c.args.rule v w (side_of t.chains c.args.worker.now.chain) (side_of t.chains c.begin.new.worker.chain) name (sym c.begin.ensures.side) all

pub returns-in-Err-clause-leaves : goal.returns-in-Err-clause-leaves
returns-in-Err-clause-leaves g c =
    let a = c.args.full in
    let t = c.args.tables.now in
    let n = buckets_of t in
    let v = turned c.args.worker.now in
    let w = known c.give.new.pass in
    let asks = c.in-Err.ensures.asks in
    let name = c.in-Err.field-0.0 in
    let once = asks.made_is ∙ ap (λ (ms : List Note). entries_of ms ++ held_entry a name ∷ []) c.in_ok-turn.ensures.none in
    let place = asks.place ∙ c.in_ok-turn.ensures.place ∙ ap (λ k. k % n) c.bind_key-key.ensures in
    let all = asked_all c.free.new.turn.place (owner_key a % n) (held_entry a name ∷ []) v w (made c.free.new.pass c.free.new.turn) place once
    (c.give.ensures.gave v (asks.within v c.in_ok-turn.ensures.within)) in
    try_away (owner_key a % n) a.port a.net a.name (answers.NotFree name) v w c.requires.away all

pub returns-in_err-turn-clause-tries : goal.returns-in_err-turn-clause-tries
returns-in_err-turn-clause-tries g c =
    let t = c.args.tables.now in
    let old = c.args.worker.now in
    let new = c.begin.new.worker in
    tries_not (buckets_of t) c.args.full c.args.moment c.args.rule (turned old) (turned new) (side_of t.chains old.chain) (side_of t.chains new.chain) _ c.from_residual.result c.from_residual.ensures.1 c.begin.ensures.side c.in_err-turn.ensures.nothing

pub returns-in_err-turn-clause-leaves : goal.returns-in_err-turn-clause-leaves
returns-in_err-turn-clause-leaves g c =
    let t = c.args.tables.now in
    let new = c.begin.new.worker in
    still_away t c.args.full.name (turned c.args.worker.now) (turned new) (side_of t.chains new.chain) _ c.from_residual.result c.from_residual.ensures.1 c.requires.away c.in_err-turn.ensures.nothing
