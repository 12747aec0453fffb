use Rattle.std.proofs.Common.{◌∙◌, sym, ap, take}
use Rattle.flat_list.specs.Padded.{padded}
use Rattle.flat_list.proofs.ShortLabels.{field_back}
use Rattle.flat_list.proofs.kept.ShortLabel.label.Goals as goal

pub from_padded-requires-clause-padded : goal.from_padded-requires-clause-padded
from_padded-requires-clause-padded c =
    let copied = c.copy_from_slice.ensures in
    field_back _ c.self.inside.used c.self.invariant.0 copied.len
    (copied.after ∙ c.self.invariant.1 ∙ ap (λ bytes. take 7 (padded (take c.self.inside.used bytes))) (sym copied.after))
