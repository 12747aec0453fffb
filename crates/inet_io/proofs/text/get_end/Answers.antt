use Rattle.std.proofs.Common.{◌∷◌, decimal}
use Rattle.inet_io.specs.Texts.{IsNumber}
use Rattle.inet_io.proofs.Fronts.{end_begins, begins_end, one_address, port_of}
use Rattle.inet_io.proofs.text.get_end.Goals as goal

pub returns-in_err-addr-clause-none : goal.returns-in_err-addr-clause-none
returns-in_err-addr-clause-none c = rw c.from_residual.ensures (λ addr port h. c.in_err-addr.ensures.none addr _ (end_begins c.args.least c.args.text.now addr port h))

pub returns-in_err-behind-clause-none : goal.returns-in_err-behind-clause-none
returns-in_err-behind-clause-none c = rw c.from_residual-in_err-behind.ensures (λ addr port h.
    c.in_err-behind.ensures.none (decimal port)
    (one_address c.args.text.now c.in_ok-addr.addr addr c.in_ok-addr.rest.now (58 ∷ decimal port) c.in_ok-addr.ensures.some (end_begins c.args.least c.args.text.now addr port h)))

pub returns-in_err-port-clause-none : goal.returns-in_err-port-clause-none
returns-in_err-port-clause-none c = rw c.from_residual-in_err-port.ensures (λ addr port h.
    let number = port_of c.args.least c.args.text.now addr port c.in_ok-addr.addr c.in_ok-addr.rest.now c.in_ok-behind.field-0.now h c.in_ok-addr.ensures.some c.in_ok-behind.ensures.some in
    c.in_err-port.ensures.none port (rw (c.from.ensures, c.from-2.ensures) number))

pub returns-clause-some : goal.returns-clause-some
returns-clause-some c =
    let number : IsNumber c.args.least 65535 c.in_ok-behind.field-0.now c.in_ok-port.port = rw (c.from.ensures, c.from-2.ensures) at c.in_ok-port.ensures.some in
    begins_end c.args.least c.args.text.now c.in_ok-addr.addr c.in_ok-addr.rest.now c.in_ok-behind.field-0.now c.in_ok-port.port c.in_ok-addr.ensures.some c.in_ok-behind.ensures.some number
