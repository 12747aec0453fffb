use Rattle.std.proofs.Common.{rules, arith}
use Rattle.turn_table.specs.Values.{Fits}
use Rattle.turn_table.proofs.Steps.{draws}
use Rattle.turn_table.proofs.pass.Turns.draw.Goals as goal

pub fetch_add-requires : goal.fetch_add-requires
fetch_add-requires g c =
    let J = g.V.Journaled in
    (search rules, search rules, draws J.notes (Fits J.notes J.is_replay J.made_for J.may_make c.args.self.now.table.shared.key) c.args.self.now.table.shared.key _ _ _ (λ z. absurd (omega (arith, c.requires.turn.1, z))) c.requires.few)
