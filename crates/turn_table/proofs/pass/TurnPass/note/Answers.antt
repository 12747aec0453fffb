use Rattle.std.proofs.Common.{rules}
use Rattle.turn_table.specs.Values.{Fits}
use Rattle.turn_table.proofs.Steps.{tells}
use Rattle.turn_table.proofs.pass.TurnPass.note.Goals as goal

pub split_seat-requires : goal.split_seat-requires
split_seat-requires g c =
    let J = g.V.Journaled in
    (search rules, search rules, tells J.notes (Fits J.notes J.is_replay J.made_for J.may_make c.args.turns.now.table.shared.key) c.args.turns.now.table.shared.key _ _)
