use Rattle.std.proofs.Common.{rules}
use Rattle.turn_table.specs.Values.{Fits}
use Rattle.turn_table.proofs.Steps.{looks}
use Rattle.turn_table.proofs.pass.TurnPass.now.Goals as goal

pub load-requires : goal.load-requires
load-requires g c =
    let J = g.V.Journaled in
    (search rules, search rules, looks J.notes (Fits J.notes J.is_replay J.made_for J.may_make c.args.turns.now.table.shared.key) c.args.turns.now.table.shared.key _ _ _)
