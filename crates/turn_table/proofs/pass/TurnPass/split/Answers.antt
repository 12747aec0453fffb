use Rattle.std.proofs.Common.{rules}
use Rattle.turn_table.specs.Values.{Fits}
use Rattle.turn_table.proofs.Steps.{splits}
use Rattle.turn_table.proofs.pass.TurnPass.split.Goals as goal

pub split_seat-seat-requires : goal.split_seat-seat-requires
split_seat-seat-requires g c =
    let J = g.V.Journaled in
    (search rules, search rules, splits J.notes (Fits J.notes J.is_replay J.made_for J.may_make c.args.turns.now.table.shared.key) c.args.turns.now.table.shared.key _ _ c.requires.first.0 c.requires.first.1 c.requires.few)
