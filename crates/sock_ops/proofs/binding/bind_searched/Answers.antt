use Rattle.std.proofs.Common.{◌≡◌, Err, IfOk, IfErr, sym, subst}
use Rattle.turn_table.specs.Passes as words
use Rattle.turn_table.specs.Passes.{known}
use Rattle.sock_card.specs.declared.owner.Owner.{Owner}
use Rattle.port_search.specs.declared.ends.SearchEnd.TheVariants as searches
use Rattle.port_search.specs.Turned.{BindsAt, BindsNowhere, BindsNotYet}
use Rattle.table_model.specs.declared.operation.OpEnd.TheVariants as errors
use Rattle.table_model.specs.Asking.{ends}
use Rattle.table_model.specs.Operations.{bound, refused, search_bind}
use Rattle.sock_ops.specs.Binding.{bound_to}
use Rattle.sock_ops.specs.Goes.{Carried, NotBusy}
use Rattle.sock_ops.proofs.BindGoes.{searched_goes, search_patient}
use Rattle.sock_ops.proofs.binding.bind_searched.Goals as goal

pub returns-clause-carried : goal.returns-clause-carried
returns-clause-carried g c = λ s.
    let n = words.places c.args.buckets.now in
    let v = known c.args.pass.now in
    let w = known c.find_bind-found.new.pass in
    let a = c.args.owner in
    let addr = c.args.addr in
    let ports = c.args.ports in
    let r = c.find_bind-found.result in
    let e = c.find_bind-found.ensures in
    let is = c.bound_at-bound.ensures in
    subst (Carried (bound_to a addr) refused n (search_bind a addr (bound a addr) (ends (refused errors.NoPort)) ports) v w s s) (sym c.end_of_search.ensures)
    (searched_goes n a v w addr ports r s
    (subst (λ (b : Owner). IfOk r (BindsAt n b ports v w)) is e.bound)
    (subst (λ (b : Owner). r ≡ Err searches.NoPort → BindsNowhere n b ports v w) is e.no_port)
    (subst (λ (b : Owner). r ≡ Err searches.Memory → BindsNotYet n b ports v w) is e.memory)
    (subst (λ (b : Owner). r ≡ Err searches.Busy → BindsNotYet n b ports v w) is e.busy) e.end)

pub returns-clause-patient : goal.returns-clause-patient
returns-clause-patient g c = λ endless.
    subst (λ q. IfErr q NotBusy) (sym c.end_of_search.ensures) (search_patient c.find_bind-found.result (c.find_bind-found.ensures.patient endless))
