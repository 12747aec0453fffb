use Rattle.std.proofs.Common.{◌%◌, ap, sym, ◌∙◌, arith}
use Rattle.open_places.specs.Pages.{cell_on, earlier_cell}
use Rattle.open_places.proofs.Pages.{earlier_holds, earlier_moves, emptied, last_holds, last_moves, taken_cells, taken_kept, taken_there}
use Rattle.open_places.proofs.paged.Paged.take.Goals as goal

pub returns-then-place-self-clause-value : goal.returns-then-place-self-clause-value
returns-then-place-self-clause-value g c =
    c.take.ensures.value ∙ sym (last_holds c.self.inside.earlier c.self.inside.number c.self.inside.last c.self.invariant c.args.self.now c.self.view_is c.args.place (omega (arith, c.if-place-self.true))).value

pub returns-then-place-self-clause-after : goal.returns-then-place-self-clause-after
returns-then-place-self-clause-after g c =
    taken_cells c.args.self.now _ c.args.place (cell_on c.self.inside.last (c.args.place % 32)) (last_moves c.self.inside.earlier c.self.inside.number c.self.inside.last c.self.invariant c.args.self.now c.self.view_is c.args.place c.take.new.self (emptied (cell_on c.self.inside.last (c.args.place % 32))) (omega (arith, c.if-place-self.true)) c.take.ensures.after (λ none. ap emptied none))

pub returns-then-place-self-clause-kept : goal.returns-then-place-self-clause-kept
returns-then-place-self-clause-kept g c =
    taken_kept c.args.self.now _ c.args.place (cell_on c.self.inside.last (c.args.place % 32)) (last_holds c.self.inside.earlier c.self.inside.number c.self.inside.last c.self.invariant c.args.self.now c.self.view_is c.args.place (omega (arith, c.if-place-self.true))) (last_moves c.self.inside.earlier c.self.inside.number c.self.inside.last c.self.invariant c.args.self.now c.self.view_is c.args.place c.take.new.self (emptied (cell_on c.self.inside.last (c.args.place % 32))) (omega (arith, c.if-place-self.true)) c.take.ensures.after (λ none. ap emptied none))

pub returns-then-place-self-clause-there : goal.returns-then-place-self-clause-there
returns-then-place-self-clause-there g c some =
    taken_there c.args.self.now c.args.self.now c.args.place (cell_on c.self.inside.last (c.args.place % 32)) (last_holds c.self.inside.earlier c.self.inside.number c.self.inside.last c.self.invariant c.args.self.now c.self.view_is c.args.place (omega (arith, c.if-place-self.true))) (λ none. some (c.take.ensures.value ∙ none))

pub returns-else-place-self-clause-value : goal.returns-else-place-self-clause-value
returns-else-place-self-clause-value g c =
    c.take_earlier.ensures.value ∙ sym (earlier_holds c.self.inside.earlier c.self.inside.number c.self.inside.last c.self.invariant c.args.self.now c.self.view_is c.args.place (omega (arith, c.if-place-self.false))).value

pub returns-else-place-self-clause-after : goal.returns-else-place-self-clause-after
returns-else-place-self-clause-after g c =
    taken_cells c.args.self.now _ c.args.place (earlier_cell c.self.inside.earlier c.args.place) (earlier_moves c.self.inside.earlier c.self.inside.number c.self.inside.last c.self.invariant c.args.self.now c.self.view_is c.args.place c.take_earlier.new.earlier (emptied (earlier_cell c.self.inside.earlier c.args.place)) (omega (arith, c.if-place-self.false)) c.take_earlier.ensures.after (λ none. ap emptied none))

pub returns-else-place-self-clause-kept : goal.returns-else-place-self-clause-kept
returns-else-place-self-clause-kept g c =
    taken_kept c.args.self.now _ c.args.place (earlier_cell c.self.inside.earlier c.args.place) (earlier_holds c.self.inside.earlier c.self.inside.number c.self.inside.last c.self.invariant c.args.self.now c.self.view_is c.args.place (omega (arith, c.if-place-self.false))) (earlier_moves c.self.inside.earlier c.self.inside.number c.self.inside.last c.self.invariant c.args.self.now c.self.view_is c.args.place c.take_earlier.new.earlier (emptied (earlier_cell c.self.inside.earlier c.args.place)) (omega (arith, c.if-place-self.false)) c.take_earlier.ensures.after (λ none. ap emptied none))

pub returns-else-place-self-clause-there : goal.returns-else-place-self-clause-there
returns-else-place-self-clause-there g c some =
    taken_there c.args.self.now c.args.self.now c.args.place (earlier_cell c.self.inside.earlier c.args.place) (earlier_holds c.self.inside.earlier c.self.inside.number c.self.inside.last c.self.invariant c.args.self.now c.self.view_is c.args.place (omega (arith, c.if-place-self.false))) (λ none. some (c.take_earlier.ensures.value ∙ none))
