use Rattle.std.proofs.Common.{rules}
use Rattle.turn_table.specs.Values.{Fits}
use Rattle.turn_table.proofs.Steps.{joins}
use Rattle.turn_table.proofs.pass.TurnPass.join.Goals as goal

pub join_seat-requires : goal.join_seat-requires
join_seat-requires g c =
    let J = g.V.Journaled in
    (search rules, search rules, search rules, search rules, joins J.notes (Fits J.notes J.is_replay J.made_for J.may_make c.args.turns.now.table.shared.key) c.args.turns.now.table.shared.key _ _ _ _ c.requires.part c.requires.free.1)
