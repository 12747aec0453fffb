use Rattle.std.proofs.Common.{◌%◌, ◌∷◌, ◌++◌, [], List, ap, subst, ◌∙◌, arith}
use Rattle.turn_table.specs.Passes as words
use Rattle.turn_table.specs.Passes.{known}
use Rattle.sock_card.specs.declared.owner.Owner.{Owner}
use Rattle.sock_card.specs.Conflict.{bind_key}
use Rattle.bind_buckets.specs.declared.request.Request.TheVariants as requests
use Rattle.bind_buckets.specs.declared.request.Answer.TheVariants as answers
use Rattle.bind_buckets.specs.Notes.{Note}
use Rattle.bind_buckets.specs.Bucket.{Bucket, IsSound, entries_of}
use Rattle.bind_buckets.specs.Answers.{answer_of_bind}
use Rattle.port_search.specs.Search.{at_port}
use Rattle.port_search.proofs.ComesFirst.{comes_first}
use Rattle.port_search.proofs.TurnSearch.{one_asked, refused_by, nothing_made}
use Rattle.port_search.proofs.turning.bind_at.Goals as goal

pub returns-in-Ok-bind_auto-clause-tried : goal.returns-in-Ok-bind_auto-clause-tried
returns-in-Ok-bind_auto-clause-tried g c =
    let asks = c.bind_auto.ensures.asks in
    let a = at_port c.args.owner c.args.port in
    let none = c.reserve.ensures.made ∙ c.in-Some.ensures.none in
    let made = asks.made_is ∙ ap (λ (ms : List Note). entries_of ms ++ record { request = requests.BindAuto c.at_port.result; answer = answer_of_bind c.bind_auto.result } ∷ []) none
    ∙ ap (λ r. record { request = requests.BindAuto c.at_port.result; answer = answer_of_bind r } ∷ []) c.in-Ok-bind_auto.is
    ∙ ap (λ (b : Owner). record { request = requests.BindAuto b; answer = answers.Done } ∷ []) c.at_port.ensures in
    let sound = subst IsSound c.deref.ensures c.recall.ensures in
    record {
      out = asks.out;
      place = asks.place ∙ (c.reserve.ensures.place ∙ (c.in-Some.ensures.place ∙ ap (λ k. k % words.places c.args.turns.now) c.bind_key.ensures));
      made_is = made;
      within = asks.within (known c.args.pass.now) c.in-Some.ensures.within;
      draws = let p = asks.draws in let q = c.take.ensures.draws in omega arith;
      caller = asks.caller ∙ c.take.ensures.caller;
      sound = sound;
      first = comes_first c.args.turns.now c.bind_auto.new.pass c.bind_auto.new.turn a asks.out sound made;
      entries = let p = c.bind_auto.ensures.entries in let q = ap (λ (x : Bucket). x.entries) c.in-Ok.ensures.ok in omega arith;
      newcomer = let p = c.in-Ok-bind_auto.ensures.newcomers in let q = ap (λ (x : Bucket). x.newcomers) c.in-Ok.ensures.ok in omega arith;
    }

pub returns-in-Err-bind_auto-clause-tried : goal.returns-in-Err-bind_auto-clause-tried
returns-in-Err-bind_auto-clause-tried g c =
    let v = known c.args.pass.now in
    let w = known c.give.new.pass in
    let asks = c.bind_auto.ensures.asks in
    let n = words.places c.args.turns.now in
    let none = c.reserve.ensures.made ∙ c.in-Some.ensures.none in
    let made = asks.made_is ∙ ap (λ (ms : List Note). entries_of ms ++ record { request = requests.BindAuto c.at_port.result; answer = answer_of_bind c.bind_auto.result } ∷ []) none
    ∙ ap (λ r. record { request = requests.BindAuto c.at_port.result; answer = answer_of_bind r } ∷ []) c.in-Err-bind_auto.is
    ∙ ap (λ (b : Owner). record { request = requests.BindAuto b; answer = answers.InUse c.in-Err-bind_auto.field-0.0 } ∷ []) c.at_port.ensures in
    let place = asks.place ∙ (c.reserve.ensures.place ∙ (c.in-Some.ensures.place ∙ ap (λ k. k % n) c.bind_key.ensures)) in
    let o = one_asked (bind_key c.args.port c.args.owner.net % n) _ (requests.BindAuto (at_port c.args.owner c.args.port)) (answers.InUse c.in-Err-bind_auto.field-0.0) v w _ place made (c.give.ensures.gave v (asks.within v c.in-Some.ensures.within)) in
    record { idle = c.give.ensures.idle; refused = refused_by n c.args.port c.args.owner v w c.in-Err-bind_auto.field-0 o }

pub returns-in-Err-clause-tried : goal.returns-in-Err-clause-tried
returns-in-Err-clause-tried g c =
    record {
      idle = c.give-in-Err.ensures.idle;
      gave = nothing_made _ _ _ _ (c.reserve.ensures.made ∙ c.in-Some.ensures.none) (c.give-in-Err.ensures.gave (known c.args.pass.now) c.in-Some.ensures.within);
      leaving = tt;
    }
