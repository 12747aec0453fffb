use Rattle.std.proofs.Common.{arith, subst}
use Rattle.std.specs.Slots.{slots_counts}
use Rattle.turn_table.specs.Values.{Fits}
use Rattle.turn_table.specs.Values.{AllFit}
use Rattle.turn_table.proofs.Uses.{closed}
use Rattle.turn_table.proofs.Closing.{all_there}
use Rattle.turn_table.proofs.pass.Turns.into_values.Goals as goal

pub take_all-requires-clause-there : goal.take_all-requires-clause-there
take_all-requires-clause-there g c =
    let J = g.V.Journaled in
    λ k l. (all_there J.notes (Fits J.notes J.is_replay J.made_for J.may_make c.args.self.table.shared.key) c.args.self.table.shared.key _ _ _ _ c.requires.whole c.requires.free.1 c.close_with-closed.ensures.values.2) k (omega (arith, (slots_counts c.close_with-closed.result.slots).0))

pub returns : goal.returns
returns g c =
    let J = g.V.Journaled in
    let F = Fits J.notes J.is_replay J.made_for J.may_make c.args.self.table.shared.key in
    let t = closed J.notes F c.args.self.table.shared.key _ _ _ _ _ _ c.requires.whole c.requires.free.1 c.close_with-closed.ensures.values.2 c.take_all.ensures.values (omega (arith, (slots_counts c.close_with-closed.result.slots).0, c.close_with-closed.ensures.counts.1)) in
    record { values = (t.0, subst (λ n. AllFit F 0 n c.take_all.new.values.items) t.0 t.1.suit); given = t.1.gave; in_order = t.1.order; found = t.1.found; rising = t.1.rising; numbers = t.1.numbers; loads = t.1.loads }
