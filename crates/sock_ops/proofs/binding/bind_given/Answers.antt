use Rattle.std.proofs.Common.{◌%◌, ◌∷◌, ◌++◌, [], List, ap, refl, sym, subst, ◌∙◌}
use Rattle.sock_card.specs.Conflict.{bind_key}
use Rattle.turn_table.specs.Passes as words
use Rattle.turn_table.specs.Passes.{known}
use Rattle.sock_card.specs.declared.owner.Owner.{Owner}
use Rattle.bind_buckets.specs.declared.request.Request.TheVariants as requests
use Rattle.bind_buckets.specs.Notes.{Note}
use Rattle.bind_buckets.specs.Bucket.{entries_of}
use Rattle.bind_buckets.specs.Answers.{answer_of_bind}
use Rattle.bind_buckets.specs.Turned.{Gave, OneAsked, made}
use Rattle.flat_list.specs.Owned.{bound_at}
use Rattle.port_search.proofs.TurnSearch.{gave_none, one_asked, nothing_made}
use Rattle.table_model.specs.Asking.{asks}
use Rattle.table_model.specs.Operations.{refused, bind_answered}
use Rattle.sock_ops.specs.Binding.{bound_to}
use Rattle.sock_ops.specs.Goes.{Carried}
use Rattle.sock_ops.proofs.BindGoes.{given_goes}
use Rattle.sock_ops.proofs.Goes.{stops_nowhere}
use Rattle.sock_ops.proofs.binding.bind_given.Goals as goal

pub returns-in-Ok-clause-carried : goal.returns-in-Ok-clause-carried
returns-in-Ok-clause-carried g c = λ s.
    let v = known c.args.pass.now in
    let w = known c.give.new.pass in
    let n = words.places c.args.buckets.now in
    let a = c.args.owner in
    let end = c.args.end in
    let r = c.bind-bound.result in
    let asks_it = c.bind-bound.ensures.asks in
    let none = c.reserve.ensures.made ∙ c.in-Some.ensures.none in
    let made = asks_it.made_is ∙ ap (λ (ms : List Note). entries_of ms ++ record { request = requests.Bind c.bound_at-bound_owner.result; answer = answer_of_bind r } ∷ []) none in
    let place = asks_it.place ∙ (c.reserve.ensures.place ∙ c.in-Some.ensures.place) ∙ ap (λ k. k % n) c.bind_key-key.ensures in
    let o = subst (λ (b : Owner). OneAsked (bind_key end.port a.net % n) (requests.Bind b) (answer_of_bind r) v w) c.bound_at-bound_owner.ensures
    (one_asked _ _ _ _ v w _ place made (c.give.ensures.gave v (asks_it.within v c.in-Some.ensures.within))) in
    subst (Carried {X = Unit {0}} (λ _. bound_to a end.addr end.port) refused n (asks (bind_key end.port a.net) (requests.Bind (bound_at a end.addr end.port)) (bind_answered a end)) v w s s) (sym c.end_of_bind.ensures)
    (given_goes n a v w end r s o)

pub returns-in-Err-clause-carried : goal.returns-in-Err-clause-carried
returns-in-Err-clause-carried g c = λ s.
    let a = c.args.owner in
    let end = c.args.end in
    stops_nowhere (words.places c.args.buckets.now) (asks (bind_key end.port a.net) (requests.Bind (bound_at a end.addr end.port)) (bind_answered a end)) (known c.args.pass.now) (known c.give-in-Err.new.pass) s s refl tt
    (nothing_made _ _ _ _ (c.reserve.ensures.made ∙ c.in-Some.ensures.none) (c.give-in-Err.ensures.gave (known c.args.pass.now) c.in-Some.ensures.within))

pub returns-in_default-clause-carried : goal.returns-in_default-clause-carried
returns-in_default-clause-carried g c = λ s.
    let a = c.args.owner in
    let end = c.args.end in
    let v = known c.args.pass.now in
    stops_nowhere (words.places c.args.buckets.now) (asks (bind_key end.port a.net) (requests.Bind (bound_at a end.addr end.port)) (bind_answered a end)) v (known c.take.new.pass) s s refl tt
    (subst (λ w. Gave v w []) (sym c.in_default.ensures.same) (gave_none v))
