use Rattle.std.proofs.Common.{rules, refl}
use Rattle.turn_table.specs.Values.{Fits}
use Rattle.turn_table.proofs.Steps.{takes_turn}
use Rattle.turn_table.proofs.Uses.{took_at, hands, taken}
use Rattle.turn_table.proofs.pass.Turns.try_take_turn.Goals as goal

pub compare_exchange-found-requires : goal.compare_exchange-found-requires
compare_exchange-found-requires g c =
    let J = g.V.Journaled in
    let F = Fits J.notes J.is_replay J.made_for J.may_make in
    let k = c.args.self.now.table.shared.key in
    (search rules, search rules, takes_turn J.notes (F k) k F refl _ _ c.args.place _ c.requires.place c.requires.free.1 c.requires.part)

pub exchange-requires : goal.exchange-requires
exchange-requires g c =
    let J = g.V.Journaled in
    let F = Fits J.notes J.is_replay J.made_for J.may_make in
    let k = c.args.self.now.table.shared.key in
    let n = c.args.self.now.table.shared.table_id.slots in
    (search rules, hands J.notes F (F k) k c.args.place n _ _ (took_at J.notes F (F k) k c.args.place n _ _ (c.compare_exchange-found.ensures.2.0 c.if-found-eq0.true)))

pub returns-then-found-eq0-clause-value : goal.returns-then-found-eq0-clause-value
returns-then-found-eq0-clause-value g c =
    let J = g.V.Journaled in
    let F = Fits J.notes J.is_replay J.made_for J.may_make in
    let k = c.args.self.now.table.shared.key in
    let n = c.args.self.now.table.shared.table_id.slots in
    let t = taken J.notes F (F k) k c.args.place n _ _ _ _ _ _ refl c.requires.free.0 (took_at J.notes F (F k) k c.args.place n _ _ (c.compare_exchange-found.ensures.2.0 c.if-found-eq0.true)) c.exchange.ensures.2 c.unwrap-value.ensures c.exchange.ensures.3 in
    t.suits k (c.requires.table.1 c.requires.part)
