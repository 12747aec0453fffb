use Rattle.std.proofs.Common.{ℕ, [], ◌<◌, get_or}
use Rattle.sock_script.specs.Seen.{texts}
use Rattle.line_forms.specs.Kinds.{IsOf, a_port}
use Rattle.refusals.proofs.ports.no_port.Given as goal

abbrev pub invariant-loop-i : goal.invariant-loop-i
invariant-loop-i l = (k : ℕ) → k < l.i → IsOf a_port (get_or (texts l.rest) k [])
