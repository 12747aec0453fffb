use Rattle.sock_script.specs.Seen.{texts}
use Rattle.sock_script.proofs.ReservedPorts.{PortsRead}
use Rattle.sock_script.proofs.form.ports_of.Given as goal

abbrev pub invariant-loop-i : goal.invariant-loop-i
invariant-loop-i l = PortsRead (texts l.words) l.ports l.least l.i
