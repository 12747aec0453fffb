use Rattle.std.proofs.Common.{◌∙◌, arith}
use Rattle.turn_table.specs.Values.{Fits}
use Rattle.turn_table.proofs.Uses.{begins}
use Rattle.turn_table.proofs.pass.Turns.with_home.Goals as goal

pub new-requires : goal.new-requires
new-requires g c =
    let J = g.V.Journaled in
    begins J.notes (Fits J.notes J.is_replay J.made_for J.may_make c.args.home.now) c.args.home.now _ c.args.values.items _ c.len-count.result c.in_ok-slots.ensures (c.as_slice.ensures.value ∙ c.in_ok-words.ensures) (omega (arith, c.args.values.ok.0, c.len-count.ensures)) c.requires.new
