use Rattle.std.proofs.Common.{rules, ap}
use Rattle.turn_table.specs.Values.{Fits}
use Rattle.turn_table.proofs.Uses.{given, gives_turn, gave_back}
use Rattle.turn_table.proofs.pass.Turns.give.Goals as goal

pub store-requires : goal.store-requires
store-requires g c =
    let J = g.V.Journaled in
    let F = Fits J.notes J.is_replay J.made_for J.may_make in
    let k = c.args.self.now.table.shared.key in
    let turn = c.args.turn in
    let m = c.args.pass.now.seat.me in
    (search rules, search rules, gives_turn J.notes F (F k) k _ _ turn.place m _ turn.value c.requires.place c.requires.turn.1 (given J.notes F (F k) k turn.place m _ turn.value c.requires.turn.0 c.exchange.ensures.3) c.requires.value c.requires.grown c.requires.numbered c.requires.caller)

pub returns-clause-view : goal.returns-clause-view
returns-clause-view g c =
    let J = g.V.Journaled in
    let F = Fits J.notes J.is_replay J.made_for J.may_make in
    let k = c.args.self.now.table.shared.key in
    let turn = c.args.turn in
    let m = c.args.pass.now.seat.me in
    ap (λ m. m.0) (gave_back J.notes F (F k) k turn.place m _ _ turn.value (given J.notes F (F k) k turn.place m _ turn.value c.requires.turn.0 c.exchange.ensures.3) c.store.ensures.2)
