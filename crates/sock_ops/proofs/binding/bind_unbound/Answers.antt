use Rattle.std.proofs.Common.{ℕ, Err, subst}
use Rattle.turn_table.specs.Passes as words
use Rattle.turn_table.specs.Passes.{known}
use Rattle.table_model.specs.Asking.{Asking, ends}
use Rattle.table_model.specs.Operations.{Did, refused, bind_unbound}
use Rattle.sock_ops.specs.Binding.{bound_to}
use Rattle.sock_ops.specs.Goes.{Went, Carried}
use Rattle.sock_ops.proofs.BindGoes.{searched_plan, given_plan}
use Rattle.sock_ops.proofs.Goes.{same_err}
use Rattle.sock_ops.proofs.binding.bind_unbound.Goals as goal

pub returns-then-end-eq0-clause-carried : goal.returns-then-end-eq0-clause-carried
returns-then-end-eq0-clause-carried g c = λ s.
    let a = c.args.owner in
    let end = c.args.end in
    subst (λ (p : Asking Did). Carried (bound_to a end.addr) refused (words.places c.args.buckets.now) p (known c.args.pass.now) (known c.bind_searched.new.pass) s s c.bind_searched.result)
    (searched_plan a end c.args.ports c.if-end-eq0.true c.requires.now) (c.bind_searched.ensures.carried s)

pub returns-in-Ok-clause-carried : goal.returns-in-Ok-clause-carried
returns-in-Ok-clause-carried g c = λ s.
    let a = c.args.owner in
    let end = c.args.end in
    subst (λ (p : Asking Did). Went (words.places c.args.buckets.now) p (known c.args.pass.now) (known c.bind_given.new.pass) s s (ends (bound_to a end.addr end.port)))
    (given_plan a end c.args.ports c.if-end-eq0.false) (c.in-Ok.ensures.carried s)

pub returns-in-Err-clause-carried : goal.returns-in-Err-clause-carried
returns-in-Err-clause-carried g c = λ s.
    let a = c.args.owner in
    let end = c.args.end in
    let n = words.places c.args.buckets.now in
    let v = known c.args.pass.now in
    let w = known c.bind_given.new.pass in
    same_err {X = Unit {0}} {Y = ℕ} (λ _. bound_to a end.addr end.port) (bound_to a end.addr) refused n (bind_unbound a end c.args.ports) v w s s c.in-Err.refusal
    (subst (λ (p : Asking Did). Carried {X = Unit {0}} (λ _. bound_to a end.addr end.port) refused n p v w s s (Err c.in-Err.refusal)) (given_plan a end c.args.ports c.if-end-eq0.false) (c.in-Err.ensures.carried s))
