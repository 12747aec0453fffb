use Rattle.std.proofs.Common.{sym, ◌∙◌}
use Rattle.flat_list.proofs.LabelKeys.{label_told}
use Rattle.label_index.proofs.Firsts.{noted, noted_again, told_new}
use Rattle.label_index.proofs.index.note_hashed.Goals as goal

pub returns-in-Some-clause-noted : goal.returns-in-Some-clause-noted
returns-in-Some-clause-noted c =
    noted_again c.args.places.now c.insert.new.self c.insert-in-Some.new.self c.args.label.now c.args.place c.in-Some.first c.key-key.result
    c.key-key.ensures.key (label_told _ _ c.key-key.ensures.key c.key-key.ensures.text)
    (sym c.in_ok-first.ensures.old ∙ c.in-Some.is) c.in_ok-first.ensures.updates c.in_ok-insert.ensures.updates

pub returns-clause-noted : goal.returns-clause-noted
returns-clause-noted c =
    noted c.args.places.now c.insert.new.self c.args.label.now c.args.place c.key-key.result
    c.key-key.ensures.key (label_told _ _ c.key-key.ensures.key c.key-key.ensures.text)
    (sym c.in_ok-first.ensures.old ∙ c.in_default.is) c.in_ok-first.ensures.updates

pub returns-in-Some-clause-told : goal.returns-in-Some-clause-told
returns-in-Some-clause-told c =
    told_new c.args.places.now c.args.label.now c.key-key.result _ c.key-key.ensures.key
    (label_told _ _ c.key-key.ensures.key c.key-key.ensures.text) (sym c.in-Some.is ∙ c.in_ok-first.ensures.old)

pub returns-clause-told : goal.returns-clause-told
returns-clause-told c =
    told_new c.args.places.now c.args.label.now c.key-key.result _ c.key-key.ensures.key
    (label_told _ _ c.key-key.ensures.key c.key-key.ensures.text) (sym c.in_default.is ∙ c.in_ok-first.ensures.old)
