use Rattle.std.proofs.Common.{length}
use Rattle.line_forms.proofs.misfit.+check_from.Given as goal

abbrev pub decreases-check_from : goal.decreases-check_from
decreases-check_from l = length l.parts.now
