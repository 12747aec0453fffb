use Rattle.std.proofs.Common.{◌∙◌}
use Rattle.flat_list.specs.Labels.{text_of}
use Rattle.flat_list.proofs.LabelKeys.{from_halves}
use Rattle.flat_list.proofs.command.Label.key.Goals as goal

pub returns-clause-text : goal.returns-clause-text
unfolding text_of
returns-clause-text c =
    from_halves c.self.inside.bytes _ _ c.self.inside.used c.self.told c.number_at.ensures.bytes c.number_at-2.ensures.bytes ∙ c.self.view_is
