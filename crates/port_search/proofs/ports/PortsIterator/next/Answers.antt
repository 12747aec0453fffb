use Rattle.std.proofs.Common.{◌≡◌, [], sym, ◌∙◌}
use Rattle.port_search.proofs.PortsLeft.{is_shorter}
use Rattle.port_search.proofs.ports.PortsIterator.next.Goals as goal

pub returns-in_err-next-clause-steps : goal.returns-in_err-next-clause-steps
returns-in_err-next-clause-steps c =
    let none : c.args.self.now ≡ [] = sym c.self.view_is ∙ c.in_err-next.ensures.none in
    rw c.from_residual.ensures (none, none)

pub returns-clause-steps : goal.returns-clause-steps
returns-clause-steps c = sym c.self.view_is ∙ c.in_ok-next.ensures.some

pub returns-clause-goes : goal.returns-clause-goes
returns-clause-goes c =
    record { on = λ _. (tt, tt, is_shorter _ _ c.in_ok-next.port (returns-clause-steps c)); keeps = tt; rests = λ _. tt }
