use Rattle.std.proofs.Common.{◌≡◌, None, find, sym, ap, ◌∙◌, subst, arith}
use Rattle.std.specs.Prelude.{option_and_then}
use Rattle.table_model.specs.Own.{is_named}
use Rattle.section_machine.specs.Places.{Labelled, at_place, mines, those}
use Rattle.section_machine.proofs.Places.{named_there, none_before, none_behind}
use Rattle.section_machine.proofs.labels.Labels.place_named.Goals as goal

pub returns-in_err-place-clause-socket : goal.returns-in_err-place-clause-socket
returns-in_err-place-clause-socket c =
    let l : Labelled = record { number = c.self.inside.number; mark = c.self.inside.mark; labels = c.self.inside.given; places = mines c.self.inside.sockets.cells; kept = c.self.inside.sockets.kept } in
    ap (option_and_then (at_place c.args.self.now.places)) c.from_residual.ensures
    ∙ sym (subst (λ (x : Labelled). find (is_named c.args.name) (those x.places) ≡ None) c.self.view_is (none_before l c.args.name (λ h. c.in_err-place.ensures (omega (arith, c.from.ensures, h))) c.self.invariant.names))

pub returns-then-place-len-clause-socket : goal.returns-then-place-len-clause-socket
returns-then-place-len-clause-socket c =
    let told = c.in_ok-place.ensures in
    sym (named_there c.args.self.now c.args.name c.in_ok-place.place (omega (arith, c.from.ensures, told.0, told.1, ap (λ (l : Labelled). l.number) c.self.view_is)) c.len.ensures.names)

pub returns-else-place-len-clause-socket : goal.returns-else-place-len-clause-socket
returns-else-place-len-clause-socket c =
    let told = c.in_ok-place.ensures in
    sym (
    named_there c.args.self.now c.args.name c.in_ok-place.place (omega (arith, c.from.ensures, told.0, told.1, ap (λ (l : Labelled). l.number) c.self.view_is)) c.len.ensures.names
    ∙ none_behind c.args.self.now.places c.in_ok-place.place (omega (arith, c.len.ensures.labels, c.len.ensures.places, c.if-place-len.false)))
