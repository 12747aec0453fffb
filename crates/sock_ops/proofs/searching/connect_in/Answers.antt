use Rattle.std.proofs.Common.{◌++◌, ◌∷◌, [], List, refl, ap, sym, subst, ◌∙◌, ◌%◌}
use Rattle.turn_table.specs.Passes.{known}
use Rattle.sock_card.specs.Conflict.{owner_key, is_time_wait}
use Rattle.bind_buckets.specs.declared.request.Entry.{Entry}
use Rattle.bind_buckets.specs.OwnTold.{StandsOwn}
use Rattle.bind_buckets.specs.Turned.{made}
use Rattle.table_rule.specs.Passes as chain_words
use Rattle.table_model.specs.Own.{Mine}
use Rattle.sock_ops.specs.Sides.{side_of}
use Rattle.sock_ops.specs.declared.tables.Worker.{Worker}
use Rattle.sock_ops.specs.Goes.{AskedAll, gone_of}
use Rattle.sock_ops.specs.Searching.{KeepsDraws, TriesAt, TryLeaves, free_entry}
use Rattle.sock_ops.specs.Stands.{buckets_of}
use Rattle.sock_ops.proofs.Goes.{asked_all}
use Rattle.sock_ops.proofs.Inserted.{drawn_four}
use Rattle.sock_ops.proofs.ConnectGoes.{hashed_at}
use Rattle.sock_ops.proofs.SearchGoes.{come_entry, tries_done, tries_refused, try_stands, try_away, next_away, next_keeps}
use Rattle.sock_ops.proofs.searching.connect_in.Goals as goal

pub returns-in-Ok-clause-tries : goal.returns-in-Ok-clause-tries
returns-in-Ok-clause-tries g c = λ v within only.
    let a = c.args.full in
    let t = c.args.tables.now in
    let n = buckets_of t in
    let w = known c.end_turn.new.pass in
    let came = c.in-Ok.came in
    let asks = c.connect_auto.ensures.asks in
    let once = asks.made_is ∙ ap (λ (es : List Entry). es ++ come_entry a ∷ []) only in
    let end = c.end_turn.ensures.gave v (asks.within v within) in
    let all = subst (λ at. AskedAll at (free_entry a ∷ come_entry a ∷ gone_of came.replaced end.0) v w) (asks.place ∙ c.requires.place)
    (subst (λ es. AskedAll c.connect_auto.new.turn.place (es ++ gone_of came.replaced end.0) v w) once end.1) in
    tries_done n a c.args.moment c.args.rule v w (side_of t.chains c.args.worker.now.chain) (side_of t.chains c.insert.new.pass) came.place came.replaced c.at_place.result end.0 c.in-Ok.ensures.inserts c.at_place.ensures all

pub returns-in-Ok-clause-leaves : goal.returns-in-Ok-clause-leaves
returns-in-Ok-clause-leaves g c = λ v within only away.
    let a = c.args.full in
    let t = c.args.tables.now in
    let n = buckets_of t in
    let w = known c.end_turn.new.pass in
    let came = c.in-Ok.came in
    let asks = c.connect_auto.ensures.asks in
    let once = asks.made_is ∙ ap (λ (es : List Entry). es ++ come_entry a ∷ []) only in
    let end = c.end_turn.ensures.gave v (asks.within v within) in
    let all = subst (λ at. AskedAll at (free_entry a ∷ come_entry a ∷ gone_of came.replaced end.0) v w) (asks.place ∙ c.requires.place)
    (subst (λ es. AskedAll c.connect_auto.new.turn.place (es ++ gone_of came.replaced end.0) v w) once end.1) in (
      subst (λ (m : Mine). StandsOwn m.owner (owner_key m.owner % n) w) (sym c.at_place.ensures) (try_stands n a v w came.replaced end.0 (ap is_time_wait c.requires.full) away all),
      hashed_at a c.args.moment c.args.rule came.place came.replaced c.at_place.result (side_of t.chains c.args.worker.now.chain) (side_of t.chains c.insert.new.pass) c.in-Ok.ensures.inserts refl c.at_place.ensures,
    )

pub returns-in-Err-clause-drawn : goal.returns-in-Err-clause-drawn
returns-in-Err-clause-drawn g c = λ more has.
    drawn_four c.insert.result (chain_words.known c.args.worker.now.chain.pass) (chain_words.known c.insert.new.pass.pass) c.insert.ensures.share more has

pub returns-in-Err-clause-keeps : goal.returns-in-Err-clause-keeps
returns-in-Err-clause-keeps g c =
    let u : Worker = record { turns = c.give.new.pass; chain = c.insert.new.pass; groups = c.args.worker.now.groups } in
    subst (KeepsDraws c.args.worker.now u) (sym c.next_or.ensures) (next_keeps c.in-Err.end c.args.worker.now u c.in-Err.ensures.share)

pub returns-in-Err-clause-tries : goal.returns-in-Err-clause-tries
returns-in-Err-clause-tries g c = λ v within only.
    let a = c.args.full in
    let t = c.args.tables.now in
    let n = buckets_of t in
    let w = known c.give.new.pass in
    let k = side_of t.chains c.args.worker.now.chain in
    let d = side_of t.chains c.insert.new.pass in
    let all = asked_all c.args.turn.place (owner_key a % n) (free_entry a ∷ []) v w (made c.args.worker.now.turns c.args.turn) c.requires.place only (c.give.ensures.gave v within) in
    subst (TriesAt n t.chains.layout a c.args.moment c.args.rule v w k d) (sym c.next_or.ensures)
    (tries_refused n a c.args.moment c.args.rule v w k d c.in-Err.end c.in-Err.ensures.inserts all)

pub returns-in-Err-clause-leaves : goal.returns-in-Err-clause-leaves
returns-in-Err-clause-leaves g c = λ v within only away.
    let a = c.args.full in
    let t = c.args.tables.now in
    let n = buckets_of t in
    let w = known c.give.new.pass in
    let d = side_of t.chains c.insert.new.pass in
    let all = asked_all c.args.turn.place (owner_key a % n) (free_entry a ∷ []) v w (made c.args.worker.now.turns c.args.turn) c.requires.place only (c.give.ensures.gave v within) in
    subst (TryLeaves t a.name w d) (sym c.next_or.ensures) (next_away t a.name w d c.in-Err.end (try_away (owner_key a % n) a.port a.net a.name _ v w away all))
