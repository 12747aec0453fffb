use Rattle.std.proofs.Common.{◌++◌, ◌∷◌, [], List, ap, subst, ◌∙◌, ◌%◌, append_assoc}
use Rattle.sock_card.specs.Conflict.{owner_key}
use Rattle.turn_table.specs.Passes.{known}
use Rattle.bind_buckets.specs.declared.request.Entry.{Entry}
use Rattle.bind_buckets.specs.declared.request.Answer.TheVariants as answers
use Rattle.bind_buckets.specs.Turned.{made}
use Rattle.sock_ops.specs.declared.order.Hashed.{Hashed}
use Rattle.sock_ops.specs.Sides.{side_of}
use Rattle.table_model.specs.Own.{Mine}
use Rattle.sock_ops.specs.Goes.{gone_if}
use Rattle.sock_ops.specs.Stands.{buckets_of}
use Rattle.sock_ops.proofs.Goes.{asked_all}
use Rattle.sock_ops.proofs.AskedFirst.{given_back, holds_after}
use Rattle.sock_ops.specs.Listens.{asked_listen, said_listen}
use Rattle.sock_ops.proofs.ListenStands.{first_told, told_so}
use Rattle.sock_ops.proofs.ListenGoes.{listen_done, listen_full}
use Rattle.sock_ops.specs.Groups.{GaveBack, ListensAs}
use Rattle.sock_ops.proofs.ListTurns.{listens_as, listens_in}
use Rattle.sock_ops.proofs.listening.start_in.Goals as goal

pub returns-in-Ok-clause-carried : goal.returns-in-Ok-clause-carried
returns-in-Ok-clause-carried g c = λ v es within only.
    let a = c.args.owner.now in
    let t = c.args.tables.now in
    let n = buckets_of t in
    let w = known c.give.new.pass in
    let asks = c.join.ensures.asks in
    let group = c.args.group in
    let asked = asked_listen a (answers.Group group) in
    let said = said_listen a c.in-Ok.hashed.place.slot in
    holds_after (owner_key a % n) es (asked ∷ said ∷ []) v w _
    (asked_all c.join.new.turn.place (owner_key a % n) (es ++ asked ∷ said ∷ []) v w (made c.join.new.pass c.join.new.turn) (asks.place ∙ c.requires.place)
    (asks.made_is ∙ ap (λ (xs : List Entry). xs ++ said ∷ []) only ∙ append_assoc es (asked ∷ []) (said ∷ [])) (c.give.ensures.gave v (asks.within v within)))
    (λ u all. listen_done n a c.args.took u w (side_of t.chains c.args.worker.now.chain) (side_of t.chains c.hash.new.pass) group c.as_listener-listener.result c.extra_of-extra.result c.card_as-card.result c.in-Ok.hashed.place c.at_place.result
    c.as_listener-listener.ensures c.extra_of-extra.ensures c.card_as-card.ensures c.in-Ok.ensures.adds c.at_place.ensures all)

pub returns-in-Err-clause-carried : goal.returns-in-Err-clause-carried
returns-in-Err-clause-carried g c = λ v es within only.
    let a = c.args.owner.now in
    let t = c.args.tables.now in
    let n = buckets_of t in
    let took = c.args.took in
    let w = known c.give_back.new.pass in
    let asked = asked_listen a (answers.Group c.args.group) in
    holds_after (owner_key a % n) es (asked ∷ gone_if took a) v w _
    (given_back c.args.turn.place (owner_key a % n) es asked (gone_if took a) v w _ c.requires.place only (c.give_back.ensures.gave v within))
    (λ u all. listen_full n a took u w (side_of t.chains c.args.worker.now.chain) (side_of t.chains c.hash.new.pass) (λ (h : Hashed). h.place) c.args.group c.as_listener-listener.result c.extra_of-extra.result c.card_as-card.result c.in-Err.end
    c.as_listener-listener.ensures c.extra_of-extra.ensures c.card_as-card.ensures c.in-Err.ensures.adds all)

pub returns-in-Ok-clause-tells : goal.returns-in-Ok-clause-tells
returns-in-Ok-clause-tells g c = λ v es within only.
    let a = c.args.owner.now in
    let t = c.args.tables.now in
    let place = owner_key a % buckets_of t in
    let w = known c.give.new.pass in
    let asks = c.join.ensures.asks in
    let asked = asked_listen a (answers.Group c.args.group) in
    let said = said_listen a c.in-Ok.hashed.place.slot in
    holds_after place es (asked ∷ said ∷ []) v w _
    (asked_all c.join.new.turn.place place (es ++ asked ∷ said ∷ []) v w (made c.join.new.pass c.join.new.turn) (asks.place ∙ c.requires.place)
    (asks.made_is ∙ ap (λ (xs : List Entry). xs ++ said ∷ []) only ∙ append_assoc es (asked ∷ []) (said ∷ [])) (c.give.ensures.gave v (asks.within v within)))
    (λ u all. told_so place a u w c.at_place.result c.args.group c.in-Ok.hashed.place.slot (ap (λ (m : Mine). m.owner) c.at_place.ensures ∙ c.as_listener-listener.ensures) all)

pub returns-in-Err-clause-tells : goal.returns-in-Err-clause-tells
returns-in-Err-clause-tells g c = λ v es within only.
    let a = c.args.owner.now in
    let took = c.args.took in
    let w = known c.give_back.new.pass in
    let place = owner_key a % buckets_of c.args.tables.now in
    let answer = answers.Group c.args.group in
    holds_after place es (asked_listen a answer ∷ gone_if took a) v w _
    (given_back c.args.turn.place place es (asked_listen a answer) (gone_if took a) v w _ c.requires.place only (c.give_back.ensures.gave v within))
    (λ u all. first_told place a u w took answer all)

pub returns-in-Ok-clause-lists : goal.returns-in-Ok-clause-lists
returns-in-Ok-clause-lists g c = λ v es within only.
    let a = c.args.owner.now in
    let t = c.args.tables.now in
    let w = known c.give.new.pass in
    let p = c.args.worker.now.groups in
    let q = c.join.new.passes in
    let e = c.join.ensures in
    let group = c.args.group in
    let place = c.in-Ok.hashed.place in
    let inside = e.asks.within v within in
    let lists = listens_in t.buckets c.args.worker.now.turns c.args.turn c.join.new.pass c.join.new.turn a place.slot v w group es p q e.sound.0 e.sound.1 c.requires.out e.asks only inside (c.give.ensures.gave v inside) e.lists in
    subst (λ i. ListensAs i c.at_place.result w p q) c.requires.place
    (listens_as c.args.turn.place a c.at_place.result c.as_listener-listener.result c.extra_of-extra.result place group w p q c.as_listener-listener.ensures c.extra_of-extra.ensures c.at_place.ensures lists)

pub returns-in-Err-clause-lists : goal.returns-in-Err-clause-lists
returns-in-Err-clause-lists g c = λ v es within only.
    subst (λ i. GaveBack c.args.took i c.args.owner.now (known c.give_back.new.pass) c.args.worker.now.groups c.give_back.new.passes) c.requires.place (c.give_back.ensures.lists v within)
