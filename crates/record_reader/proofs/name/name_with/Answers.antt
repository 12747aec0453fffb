use Rattle.record_reader.specs.Names.{label_of}
use Rattle.record_reader.proofs.Labels.{from_halves}
use Rattle.record_reader.proofs.name.name_with.Goals as goal

pub returns-clause-label : goal.returns-clause-label
unfolding label_of
returns-clause-label c =
    from_halves c.args.label.now _ _ _ c.requires c.padded-field.ensures c.number_at.ensures.bytes c.number_at-2.ensures.bytes
