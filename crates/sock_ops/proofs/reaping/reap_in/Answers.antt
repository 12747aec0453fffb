use Rattle.std.proofs.Common.{◌≡◌, ◌++◌, ◌∷◌, ◌%◌, [], List, ap, subst, ◌∙◌, refl}
use Rattle.sock_card.specs.Conflict.{owner_key}
use Rattle.sock_card.specs.declared.card.Kind.TheVariants as kinds
use Rattle.turn_table.specs.Passes.{known}
use Rattle.bind_buckets.specs.Answers.{answer_of_name}
use Rattle.bind_buckets.specs.Notes.{Note}
use Rattle.bind_buckets.specs.Bucket.{entries_of}
use Rattle.bind_buckets.specs.Turned.{made}
use Rattle.port_search.proofs.TurnSearch.{nothing_made}
use Rattle.sock_ops.specs.Answers.{Reaps}
use Rattle.sock_ops.specs.Sides.{side_of}
use Rattle.table_model.specs.Own.{Mine, card_of}
use Rattle.sock_ops.specs.Stands.{buckets_of}
use Rattle.sock_ops.proofs.Goes.{asked_all}
use Rattle.sock_ops.proofs.ReapGoes.{reap_entry, reap_found, reap_none}
use Rattle.sock_ops.proofs.reaping.reap_in.Goals as goal

pub returns-in-Some-answer-clause-reaps : goal.returns-in-Some-answer-clause-reaps
returns-in-Some-answer-clause-reaps g c = λ v within rest n.
    let m : Mine = c.args.waiting.now in
    let t = c.args.tables.now in
    let b = buckets_of t in
    let u = known c.give-in-Some-answer.new.pass in
    let answer = answer_of_name c.remove_waiting-known.result in
    let asks = c.remove_waiting-known.ensures.asks in
    let same : c.card_as-card.result ≡ card_of kinds.TimeWait m = c.card_as-card.ensures ∙ ap (λ (x : Mine). card_of kinds.TimeWait x) c.waiting.view_is in
    let once = asks.made_is ∙ ap (λ (ms : List Note). entries_of ms ++ reap_entry c.waiting.inside.owner.name answer ∷ []) c.requires.made
    ∙ ap (λ (x : Mine). reap_entry x.owner.name answer ∷ []) c.waiting.view_is in
    let all = asked_all c.remove_waiting-known.new.turn.place (owner_key m.owner % b) (reap_entry m.owner.name answer ∷ []) v u (made c.remove_waiting-known.new.pass c.remove_waiting-known.new.turn) (asks.place ∙ c.requires.place) once (c.give-in-Some-answer.ensures.gave v (asks.within v within)) in
    reap_found b m rest n v u (side_of t.chains c.args.worker.now.chain) (side_of t.chains c.remove_tw.new.pass) c.card_as-card.result c.in-Some-answer.field-0 answer same (subst (λ r. Reaps c.card_as-card.result r (side_of t.chains c.args.worker.now.chain) (side_of t.chains c.remove_tw.new.pass)) c.in-Some-answer.is c.in-Some.ensures.reaps) all

pub returns-in-None-clause-reaps : goal.returns-in-None-clause-reaps
returns-in-None-clause-reaps g c = λ v within rest n.
    let m : Mine = c.args.waiting.now in
    let t = c.args.tables.now in
    let u = known c.give-in-None.new.pass in
    let place = c.args.turn.place in
    let same : c.card_as-card.result ≡ card_of kinds.TimeWait m = c.card_as-card.ensures ∙ ap (λ (x : Mine). card_of kinds.TimeWait x) c.waiting.view_is in
    let all = asked_all place place [] v u (made c.args.worker.now.turns c.args.turn) refl (ap (λ (ms : List Note). entries_of ms) c.requires.made) (c.give-in-None.ensures.gave v within) in
    reap_none (buckets_of t) m rest n v u (side_of t.chains c.args.worker.now.chain) (side_of t.chains c.remove_tw.new.pass) place c.card_as-card.result same (subst (λ r. Reaps c.card_as-card.result r (side_of t.chains c.args.worker.now.chain) (side_of t.chains c.remove_tw.new.pass)) c.in-None.is c.in-Some.ensures.reaps) all

pub returns-in_default-clause-nothing : goal.returns-in_default-clause-nothing
returns-in_default-clause-nothing g c = λ v within.
    nothing_made c.args.turn.place v (known c.give.new.pass) (made c.args.worker.now.turns c.args.turn) c.requires.made (c.give.ensures.gave v within)
