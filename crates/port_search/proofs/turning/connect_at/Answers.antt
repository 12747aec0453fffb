use Rattle.std.proofs.Common.{◌∷◌, ◌++◌, [], List, Option, ap, sym, subst, ◌∙◌}
use Rattle.sock_card.specs.declared.owner.Owner.{Owner}
use Rattle.turn_table.specs.Passes as words
use Rattle.turn_table.specs.Passes.{known}
use Rattle.bind_buckets.specs.declared.request.Request.TheVariants as requests
use Rattle.bind_buckets.specs.declared.request.Entry.{Entry}
use Rattle.bind_buckets.specs.Answers.{answer_of_name}
use Rattle.port_search.specs.TurnedConnect.{CameAt}
use Rattle.port_search.proofs.TurnConnect.{free_entry, come_entry, came_alone, came_replacing}
use Rattle.port_search.proofs.turning.connect_at.Goals as goal

pub returns-in-None-clause-came : goal.returns-in-None-clause-came
returns-in-None-clause-came c =
    let n = words.places c.args.turns.now in
    let port = c.args.port in
    let asks = c.connect_auto.ensures.asks in
    λ v w e.
    let es = asks.made_is ∙ ap (λ (xs : List Entry). xs ++ come_entry c.chosen_at.result ∷ []) e ∙ ap (λ (a : Owner). free_entry c.args.owner.net port ∷ come_entry a ∷ []) c.chosen_at.ensures in
    subst (λ (r : Option _). CameAt n c.args.owner port r v (known c.give.new.pass)) (sym c.in-None.is)
    (came_alone n port c.args.owner v (known c.give.new.pass) _ _ (asks.place ∙ c.requires.place) (c.give.ensures.gave v (asks.within v w)) es)

pub returns-in-Some-clause-came : goal.returns-in-Some-clause-came
returns-in-Some-clause-came c =
    let n = words.places c.args.turns.now in
    let port = c.args.port in
    let asks = c.connect_auto.ensures.asks in
    let then_ = c.remove_waiting-gone.ensures.asks in
    let answer = answer_of_name c.remove_waiting-gone.result in
    λ v w e.
    let es = asks.made_is ∙ ap (λ (xs : List Entry). xs ++ come_entry c.chosen_at.result ∷ []) e ∙ ap (λ (a : Owner). free_entry c.args.owner.net port ∷ come_entry a ∷ []) c.chosen_at.ensures in
    let all = then_.made_is ∙ ap (λ (xs : List Entry). xs ++ record { request = requests.RemoveWaiting c.in-Some.name; answer = answer } ∷ []) es in
    subst (λ (r : Option _). CameAt n c.args.owner port r v (known c.give-in-Some.new.pass)) (sym c.in-Some.is)
    (came_replacing n port c.args.owner v (known c.give-in-Some.new.pass) _ _ (then_.place ∙ (asks.place ∙ c.requires.place)) (c.give-in-Some.ensures.gave v (then_.within v (asks.within v w))) c.in-Some.name answer all)
