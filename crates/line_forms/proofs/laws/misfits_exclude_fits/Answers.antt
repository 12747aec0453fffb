use Rattle.line_forms.proofs.Walk.{fit-excludes}
use Rattle.line_forms.proofs.laws.misfits_exclude_fits.Goals as goal

pub returns : goal.returns
returns c = fit-excludes
