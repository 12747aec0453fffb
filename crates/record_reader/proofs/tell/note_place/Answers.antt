use Rattle.std.proofs.Common.{sym, ap, ◌∙◌}
use Rattle.std.specs.Option.{option_copied}
use Rattle.record_reader.proofs.Index.{noted, noted_again}
use Rattle.record_reader.proofs.tell.note_place.Goals as goal

pub returns-in_ok-insert : goal.returns-in_ok-insert
returns-in_ok-insert c =
    noted c.args.index.now c.insert.new.self c.args.name c.args.place (sym c.get.ensures.value ∙ ap option_copied c.in-None.is) c.in_ok-insert.ensures.entries

pub returns-in_default : goal.returns-in_default
returns-in_default c =
    noted_again c.args.index.now c.args.name c.args.place c.in_default.field-0.now (sym c.get.ensures.value ∙ ap option_copied c.in_default.is)
