use Rattle.std.proofs.Common.{Some, is_some, ap, sym, ◌∙◌, arith}
use Rattle.std.proofs.lemmas.Bool.{false≢true}
use Rattle.open_places.proofs.Pages.{earlier_holds, earlier_moves, last_holds, last_moves, put_kept}
use Rattle.open_places.proofs.paged.Paged.put.Goals as goal

pub put-requires : goal.put-requires
put-requires g c =
    record { kept = sym (last_holds c.self.inside.earlier c.self.inside.number c.self.inside.last c.self.invariant c.args.self.now c.self.view_is c.args.place (omega (arith, c.if-place-self.true))).kept ∙ c.requires.kept }

pub put_earlier-requires : goal.put_earlier-requires
put_earlier-requires g c =
    sym (earlier_holds c.self.inside.earlier c.self.inside.number c.self.inside.last c.self.invariant c.args.self.now c.self.view_is c.args.place (omega (arith, c.if-place-self.false))).kept ∙ c.requires.kept

pub returns-then-place-self-clause-put : goal.returns-then-place-self-clause-put
returns-then-place-self-clause-put g c =
    (last_moves c.self.inside.earlier c.self.inside.number c.self.inside.last c.self.invariant c.args.self.now c.self.view_is c.args.place c.put.new.self (Some (Some c.args.value)) (omega (arith, c.if-place-self.true)) c.put.ensures (λ none. absurd (false≢true (sym (ap is_some none) ∙ sym (last_holds c.self.inside.earlier c.self.inside.number c.self.inside.last c.self.invariant c.args.self.now c.self.view_is c.args.place (omega (arith, c.if-place-self.true))).kept ∙ c.requires.kept)))).cells

pub returns-then-place-self-clause-kept : goal.returns-then-place-self-clause-kept
returns-then-place-self-clause-kept g c =
    put_kept c.args.self.now _ c.args.place c.args.value (last_moves c.self.inside.earlier c.self.inside.number c.self.inside.last c.self.invariant c.args.self.now c.self.view_is c.args.place c.put.new.self (Some (Some c.args.value)) (omega (arith, c.if-place-self.true)) c.put.ensures (λ none. absurd (false≢true (sym (ap is_some none) ∙ sym (last_holds c.self.inside.earlier c.self.inside.number c.self.inside.last c.self.invariant c.args.self.now c.self.view_is c.args.place (omega (arith, c.if-place-self.true))).kept ∙ c.requires.kept)))) c.requires.kept

pub returns-else-place-self-clause-put : goal.returns-else-place-self-clause-put
returns-else-place-self-clause-put g c =
    (earlier_moves c.self.inside.earlier c.self.inside.number c.self.inside.last c.self.invariant c.args.self.now c.self.view_is c.args.place c.put_earlier.new.earlier (Some (Some c.args.value)) (omega (arith, c.if-place-self.false)) c.put_earlier.ensures (λ none. absurd (false≢true (sym (ap is_some none) ∙ sym (earlier_holds c.self.inside.earlier c.self.inside.number c.self.inside.last c.self.invariant c.args.self.now c.self.view_is c.args.place (omega (arith, c.if-place-self.false))).kept ∙ c.requires.kept)))).cells

pub returns-else-place-self-clause-kept : goal.returns-else-place-self-clause-kept
returns-else-place-self-clause-kept g c =
    put_kept c.args.self.now _ c.args.place c.args.value (earlier_moves c.self.inside.earlier c.self.inside.number c.self.inside.last c.self.invariant c.args.self.now c.self.view_is c.args.place c.put_earlier.new.earlier (Some (Some c.args.value)) (omega (arith, c.if-place-self.false)) c.put_earlier.ensures (λ none. absurd (false≢true (sym (ap is_some none) ∙ sym (earlier_holds c.self.inside.earlier c.self.inside.number c.self.inside.last c.self.invariant c.args.self.now c.self.view_is c.args.place (omega (arith, c.if-place-self.false))).kept ∙ c.requires.kept)))) c.requires.kept
