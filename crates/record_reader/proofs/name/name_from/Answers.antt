use Rattle.std.proofs.Common.{◌+◌, sym, ap, ◌∙◌}
use Rattle.std.proofs.lemmas.Bool.{false≢true}
use Rattle.inet_io.proofs.EndTexts.{tail_is}
use Rattle.inet_io.specs.Labels.{is_label}
use Rattle.record_reader.proofs.Dots.{name-is_cut, name-has_dot, name-from_cut, name-fits, section_named}
use Rattle.record_reader.proofs.name.name_from.Goals as goal

pub returns-in_err-dot-clause-none : goal.returns-in_err-dot-clause-none
returns-in_err-dot-clause-none c =
    rw c.from_residual.ensures (λ name fits e. name-has_dot c.args.word.now name e (sym c.in_err-dot.ensures.place))

pub returns-in_err-section-clause-none : goal.returns-in_err-section-clause-none
returns-in_err-section-clause-none c =
    rw c.from_residual-in_err-section.ensures (λ name fits e.
    c.in_err-section.ensures.none name.section (name-is_cut _ name _ fits e (sym c.in_ok-dot.ensures.place)).0 fits.section.0 fits.section.1)

pub returns-then-not-is_label-clause-none : goal.returns-then-not-is_label-clause-none
returns-then-not-is_label-clause-none c name fits e =
    let cut = name-is_cut _ name _ fits e (sym c.in_ok-dot.ensures.place) in
    false≢true (c.if-not-is_label.ensures ∙ ap is_label (tail_is (c.in_ok-dot.dot + 1) c.args.word.now ∙ cut.1) ∙ fits.label)

pub returns-clause-spelled : goal.returns-clause-spelled
returns-clause-spelled c =
    name-from_cut c.args.word.now _ c.in_ok-section.section c.in_ok-dot.dot c.name_with.result (sym c.in_ok-dot.ensures.place) c.in_ok-section.ensures.spelled (tail_is (c.in_ok-dot.dot + 1) c.args.word.now)
    c.name_with.ensures.name c.name_with.ensures.label (section_named _ _ _ c.name_with.ensures.name)

pub returns-clause-fits : goal.returns-clause-fits
returns-clause-fits c =
    name-fits _ c.in_ok-section.section c.name_with.result c.in_ok-section.ensures.in_range.0 c.in_ok-section.ensures.in_range.1 (sym c.if-not-is_label.ensures)
    c.name_with.ensures.name c.name_with.ensures.label (section_named _ _ _ c.name_with.ensures.name)
