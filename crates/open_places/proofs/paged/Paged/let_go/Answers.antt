use Rattle.std.proofs.Common.{None, refl, arith}
use Rattle.open_places.proofs.Pages.{earlier_moves, gone_cells, last_moves}
use Rattle.open_places.proofs.paged.Paged.let_go.Goals as goal

pub returns-then-place-self-clause-same : goal.returns-then-place-self-clause-same
returns-then-place-self-clause-same g c =
    gone_cells c.args.self.now _ c.args.place (last_moves c.self.inside.earlier c.self.inside.number c.self.inside.last c.self.invariant c.args.self.now c.self.view_is c.args.place c.let_go.new.self None (omega (arith, c.if-place-self.true)) c.let_go.ensures (λ none. refl)) c.requires.empty

pub returns-then-place-self-clause-kept : goal.returns-then-place-self-clause-kept
returns-then-place-self-clause-kept g c =
    (last_moves c.self.inside.earlier c.self.inside.number c.self.inside.last c.self.invariant c.args.self.now c.self.view_is c.args.place c.let_go.new.self None (omega (arith, c.if-place-self.true)) c.let_go.ensures (λ none. refl)).kept

pub returns-else-place-self-clause-same : goal.returns-else-place-self-clause-same
returns-else-place-self-clause-same g c =
    gone_cells c.args.self.now _ c.args.place (earlier_moves c.self.inside.earlier c.self.inside.number c.self.inside.last c.self.invariant c.args.self.now c.self.view_is c.args.place c.let_go_earlier.new.earlier None (omega (arith, c.if-place-self.false)) c.let_go_earlier.ensures (λ none. refl)) c.requires.empty

pub returns-else-place-self-clause-kept : goal.returns-else-place-self-clause-kept
returns-else-place-self-clause-kept g c =
    (earlier_moves c.self.inside.earlier c.self.inside.number c.self.inside.last c.self.invariant c.args.self.now c.self.view_is c.args.place c.let_go_earlier.new.earlier None (omega (arith, c.if-place-self.false)) c.let_go_earlier.ensures (λ none. refl)).kept
