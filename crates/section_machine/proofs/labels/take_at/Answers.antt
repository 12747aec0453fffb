use Rattle.std.proofs.Common.{None, ap, ◌∙◌}
use Rattle.std.specs.Option.{option_map}
use Rattle.std.proofs.lemmas.List.{map-set}
use Rattle.section_machine.specs.Places as spec
use Rattle.sock_ops.specs.Socks.{mine_of}
use Rattle.section_machine.proofs.labels.take_at.Goals as goal

pub returns-clause-after : goal.returns-clause-after
returns-clause-after c = ap spec.mines c.take.ensures.after ∙ map-set (option_map mine_of) c.args.sockets.now.cells c.args.place None
