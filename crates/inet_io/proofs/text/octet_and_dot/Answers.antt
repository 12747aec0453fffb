use Rattle.std.proofs.Common.{◌∷◌}
use Rattle.inet_io.proofs.Fronts.{octet_begins, one_begin}
use Rattle.inet_io.proofs.text.octet_and_dot.Goals as goal

pub returns-in_err-n-clause-none : goal.returns-in_err-n-clause-none
returns-in_err-n-clause-none c =
    rw c.from_residual.ensures (λ n rest small spelled. c.in_err-n.ensures.none n (46 ∷ rest) (octet_begins c.args.text.now n rest small spelled))

pub returns-in_err-behind-clause-none : goal.returns-in_err-behind-clause-none
returns-in_err-behind-clause-none c =
    rw c.from_residual-in_err-behind.ensures (λ n rest small spelled.
    c.in_err-behind.ensures.none rest (one_begin c.args.text.now 255 255 c.in_ok-n.n n c.in_ok-n.rest.now (46 ∷ rest) c.in_ok-n.ensures.some (octet_begins c.args.text.now n rest small spelled)))
