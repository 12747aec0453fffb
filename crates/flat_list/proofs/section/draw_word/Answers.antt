use Rattle.std.proofs.Common.{◌≡◌, ◌∙◌, sym, ap, position, Some, None}
use Rattle.rand_pcg.specs.Pcg.{pcg32}
use Rattle.flat_list.specs.Sections.{has_number, past_word}
use Rattle.flat_list.proofs.PutSection.{none_given, read_at, drawn_at}
use Rattle.flat_list.proofs.section.draw_word.Goals as goal

pub returns-in-None-clause-word : goal.returns-in-None-clause-word
returns-in-None-clause-word c header =
    let place : position (has_number c.args.number) c.args.sections.now ≡ None = sym c.place_of_number.ensures ∙ c.in-None.is in
    absurd (c.requires (none_given header c.args.number c.args.sections.now place))

pub returns-in-None-clause-next : goal.returns-in-None-clause-next
returns-in-None-clause-next c header =
    let place : position (has_number c.args.number) c.args.sections.now ≡ None = sym c.place_of_number.ensures ∙ c.in-None.is in
    absurd (c.requires (none_given header c.args.number c.args.sections.now place))

pub returns-in-Some-clause-word : goal.returns-in-Some-clause-word
returns-in-Some-clause-word c header =
    let place : position (has_number c.args.number) c.args.sections.now ≡ Some c.in-Some.place = sym c.place_of_number.ensures ∙ c.in-Some.is in
    c.next_word.ensures.word ∙ ap (λ s. (pcg32 s.generator).0) (sym c.index-sections-place.is ∙ read_at header c.args.number c.in-Some.place c.args.sections.now c.index-sections-place.result place c.index-sections-place.is)

pub returns-in-Some-clause-next : goal.returns-in-Some-clause-next
returns-in-Some-clause-next c header =
    let place : position (has_number c.args.number) c.args.sections.now ≡ Some c.in-Some.place = sym c.place_of_number.ensures ∙ c.in-Some.is in
    drawn_at header c.args.number c.in-Some.place c.args.sections.now c.index-sections-place.result c.next_word.new.self place c.index-sections-place.is (c.next_word.ensures.next ∙ ap past_word (sym c.index-sections-place.is))
