use Rattle.std.proofs.Common.{◌+◌, ◌++◌, ◌∷◌, sym, subst, ◌∙◌, ◌%◌}
use Rattle.sock_card.specs.Conflict.{owner_key}
use Rattle.turn_table.specs.Passes.{known}
use Rattle.bind_buckets.specs.Bucket.{entries_of}
use Rattle.bind_buckets.specs.Answers.{answer_of_end}
use Rattle.bind_buckets.specs.Turned.{made}
use Rattle.table_rule.specs.Calls.{HasShares}
use Rattle.sock_ops.specs.Sides.{Side, side_of}
use Rattle.table_model.specs.Own.{Mine}
use Rattle.table_model.specs.Operations.{done, refused, listen_at}
use Rattle.sock_ops.specs.Goes.{AskedAll, CarriedOut, HoldsAfter, gone_if}
use Rattle.sock_ops.specs.Groups.{GaveBack}
use Rattle.sock_ops.specs.Listens.{asked_listen}
use Rattle.sock_ops.specs.Stands.{buckets_of, turned}
use Rattle.sock_ops.proofs.AskedFirst.{given_back, holds_after}
use Rattle.sock_ops.proofs.ListenGoes.{listen_refused, listen_left}
use Rattle.sock_ops.proofs.ListenStands.{first_told, none_told}
use Rattle.sock_ops.proofs.listening.start_in_turn.Goals as goal

pub returns-in-Ok-may_listen-clause-drawn : goal.returns-in-Ok-may_listen-clause-drawn
returns-in-Ok-may_listen-clause-drawn g c = λ more may.
    c.start_in.ensures.drawn more (subst (λ (s : Side). HasShares (more + 2) s.view) (sym c.reserve.ensures.same) may)

pub returns-in-Ok-may_listen-clause-carried : goal.returns-in-Ok-may_listen-clause-carried
returns-in-Ok-may_listen-clause-carried g c = λ v within.
    let a = c.args.owner.now in
    let t = c.args.tables.now in
    let n = buckets_of t in
    let w = turned c.start_in.new.worker in
    let es = entries_of (made c.args.worker.now.turns c.args.turn) in
    let asks = c.in-Ok-may_listen.ensures.asks in
    subst (λ (k : Side). HoldsAfter (owner_key a % n) es v (λ u. CarriedOut {X = Mine} done refused n a.name (listen_at t.chains.layout.shape t.chains.layout.seed c.args.took a) u w k (side_of t.chains c.start_in.new.worker.chain) c.start_in.result)) c.reserve.ensures.same
    (c.start_in.ensures.carried v es (asks.within v within) asks.made_is)

pub returns-in-Err-may_listen-clause-carried : goal.returns-in-Err-may_listen-clause-carried
returns-in-Err-may_listen-clause-carried g c = λ v within.
    let a = c.args.owner.now in
    let t = c.args.tables.now in
    let n = buckets_of t in
    let w = known c.give_back.new.pass in
    let took = c.args.took in
    let es = entries_of (made c.args.worker.now.turns c.args.turn) in
    let asks = c.in-Err-may_listen.ensures.asks in
    let answer = answer_of_end c.in-Err-may_listen.end in
    let e = asked_listen a answer in
    holds_after (owner_key a % n) es (e ∷ gone_if took a) v w _
    (given_back c.may_listen.new.turn.place (owner_key a % n) es e (gone_if took a) v w _ (asks.place ∙ c.requires.place) asks.made_is (c.give_back.ensures.gave v (asks.within v within)))
    (λ u all. listen_refused n a took u w (side_of t.chains c.args.worker.now.chain) (side_of t.chains c.reserve.new.self) answer c.end_of.result c.end_of.ensures (sym c.reserve.ensures.same) all)

pub returns-in-Err-clause-carried : goal.returns-in-Err-clause-carried
returns-in-Err-clause-carried g c = λ v within.
    let a = c.args.owner.now in
    let t = c.args.tables.now in
    let n = buckets_of t in
    let w = known c.give_back-in-Err.new.pass in
    let took = c.args.took in
    let es = entries_of (made c.args.worker.now.turns c.args.turn) in
    holds_after (owner_key a % n) es (gone_if took a) v w _
    (subst (λ i. AskedAll i (es ++ gone_if took a) v w) c.requires.place (c.give_back-in-Err.ensures.gave v within))
    (λ u all. listen_left n a took u w (side_of t.chains c.args.worker.now.chain) (side_of t.chains c.reserve.new.self) (sym c.reserve.ensures.same) all)

pub returns-in-Ok-may_listen-clause-tells : goal.returns-in-Ok-may_listen-clause-tells
returns-in-Ok-may_listen-clause-tells g c = λ v within.
    let asks = c.in-Ok-may_listen.ensures.asks in
    c.start_in.ensures.tells v (entries_of (made c.args.worker.now.turns c.args.turn)) (asks.within v within) asks.made_is

pub returns-in-Err-may_listen-clause-tells : goal.returns-in-Err-may_listen-clause-tells
returns-in-Err-may_listen-clause-tells g c = λ v within.
    let a = c.args.owner.now in
    let place = owner_key a % buckets_of c.args.tables.now in
    let w = known c.give_back.new.pass in
    let took = c.args.took in
    let es = entries_of (made c.args.worker.now.turns c.args.turn) in
    let asks = c.in-Err-may_listen.ensures.asks in
    let answer = answer_of_end c.in-Err-may_listen.end in
    let e = asked_listen a answer in
    holds_after place es (e ∷ gone_if took a) v w _
    (given_back c.may_listen.new.turn.place place es e (gone_if took a) v w _ (asks.place ∙ c.requires.place) asks.made_is (c.give_back.ensures.gave v (asks.within v within)))
    (λ u all. first_told place a u w took answer all)

pub returns-in-Err-clause-tells : goal.returns-in-Err-clause-tells
returns-in-Err-clause-tells g c = λ v within.
    let a = c.args.owner.now in
    let place = owner_key a % buckets_of c.args.tables.now in
    let w = known c.give_back-in-Err.new.pass in
    let took = c.args.took in
    let es = entries_of (made c.args.worker.now.turns c.args.turn) in
    holds_after place es (gone_if took a) v w _
    (subst (λ i. AskedAll i (es ++ gone_if took a) v w) c.requires.place (c.give_back-in-Err.ensures.gave v within))
    (λ u all. none_told place a u w took all)

pub returns-in-Ok-may_listen-clause-lists : goal.returns-in-Ok-may_listen-clause-lists
returns-in-Ok-may_listen-clause-lists g c = λ v within.
    let asks = c.in-Ok-may_listen.ensures.asks in
    c.start_in.ensures.lists v (entries_of (made c.args.worker.now.turns c.args.turn)) (asks.within v within) asks.made_is

pub returns-in-Err-may_listen-clause-lists : goal.returns-in-Err-may_listen-clause-lists
returns-in-Err-may_listen-clause-lists g c = λ v within.
    let asks = c.in-Err-may_listen.ensures.asks in
    subst (λ i. GaveBack c.args.took i c.args.owner.now (known c.give_back.new.pass) c.args.worker.now.groups c.give_back.new.passes) (asks.place ∙ c.requires.place)
    (c.give_back.ensures.lists v (asks.within v within))

pub returns-in-Err-clause-lists : goal.returns-in-Err-clause-lists
returns-in-Err-clause-lists g c = λ v within.
    subst (λ i. GaveBack c.args.took i c.args.owner.now (known c.give_back-in-Err.new.pass) c.args.worker.now.groups c.give_back-in-Err.new.passes) c.requires.place
    (c.give_back-in-Err.ensures.lists v within)
