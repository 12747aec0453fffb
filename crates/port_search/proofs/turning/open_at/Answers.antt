use Rattle.std.proofs.Common.{◌∷◌, ◌++◌, ◌%◌, [], List, ap, ◌∙◌, arith}
use Rattle.sock_card.specs.Conflict.{bind_key}
use Rattle.turn_table.specs.Passes as words
use Rattle.turn_table.specs.Passes.{known}
use Rattle.bind_buckets.specs.declared.request.Request.TheVariants as requests
use Rattle.bind_buckets.specs.declared.request.Answer.TheVariants as answers
use Rattle.bind_buckets.specs.Notes.{Note}
use Rattle.bind_buckets.specs.Bucket.{Bucket, entries_of}
use Rattle.bind_buckets.specs.Answers.{answer_of_free}
use Rattle.port_search.proofs.TurnSearch.{one_asked, nothing_made}
use Rattle.port_search.proofs.turning.open_at.Goals as goal

pub returns-in-Ok-free-clause-opened : goal.returns-in-Ok-free-clause-opened
returns-in-Ok-free-clause-opened g c =
    let asks = c.free.ensures.asks in
    let none = c.reserve.ensures.made ∙ c.in-Some.ensures.none in
    let made = asks.made_is ∙ ap (λ (ms : List Note). entries_of ms ++ record { request = requests.Free c.args.port c.args.net; answer = answer_of_free c.free.result } ∷ []) none in
    record {
      out = asks.out;
      place = asks.place ∙ (c.reserve.ensures.place ∙ (c.in-Some.ensures.place ∙ ap (λ k. k % words.places c.args.turns.now) c.bind_key.ensures));
      made_is = made ∙ ap (λ r. record { request = requests.Free c.args.port c.args.net; answer = answer_of_free r } ∷ []) c.in-Ok-free.is;
      within = asks.within (known c.args.pass.now) c.in-Some.ensures.within;
      draws = let a = asks.draws in let b = c.take.ensures.draws in omega arith;
      caller = asks.caller ∙ c.take.ensures.caller;
      free = c.in-Ok-free.ensures.free;
      entries = let a = c.free.ensures.entries in let b = ap (λ (x : Bucket). x.entries) c.in-Ok.ensures.ok in omega arith;
      newcomer = let a = c.free.ensures.newcomers in let b = ap (λ (x : Bucket). x.newcomers) c.in-Ok.ensures.ok in omega arith;
    }

pub returns-in-Err-free-clause-opened : goal.returns-in-Err-free-clause-opened
returns-in-Err-free-clause-opened g c =
    let v = known c.args.pass.now in
    let w = known c.give.new.pass in
    let asks = c.free.ensures.asks in
    let none = c.reserve.ensures.made ∙ c.in-Some.ensures.none in
    let place = asks.place ∙ (c.reserve.ensures.place ∙ (c.in-Some.ensures.place ∙ ap (λ k. k % words.places c.args.turns.now) c.bind_key.ensures)) in
    let made = asks.made_is ∙ ap (λ (ms : List Note). entries_of ms ++ record { request = requests.Free c.args.port c.args.net; answer = answer_of_free c.free.result } ∷ []) none
    ∙ ap (λ r. record { request = requests.Free c.args.port c.args.net; answer = answer_of_free r } ∷ []) c.in-Err-free.is in
    let o = one_asked (bind_key c.args.port c.args.net % words.places c.args.turns.now) _ (requests.Free c.args.port c.args.net) (answers.NotFree c.in-Err-free.field-0.0) v w _ place made (c.give.ensures.gave v (asks.within v c.in-Some.ensures.within)) in
    record { idle = c.give.ensures.idle; entry = o.entry; held = record { name = c.in-Err-free.field-0.0; asked = o.asked }; gave = o.gave }

pub returns-in-Err-clause-opened : goal.returns-in-Err-clause-opened
returns-in-Err-clause-opened g c =
    record {
      idle = c.give-in-Err.ensures.idle;
      gave = nothing_made _ _ _ _ (c.reserve.ensures.made ∙ c.in-Some.ensures.none) (c.give-in-Err.ensures.gave (known c.args.pass.now) c.in-Some.ensures.within);
      leaving = tt;
    }
