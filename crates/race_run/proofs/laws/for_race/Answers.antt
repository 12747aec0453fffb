use Rattle.race_run.proofs.ForRace.{scripts_are_for_race}
use Rattle.race_run.proofs.laws.for_race.Goals as goal

pub returns : goal.returns
returns c = scripts_are_for_race
