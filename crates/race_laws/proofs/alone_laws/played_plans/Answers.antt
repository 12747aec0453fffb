use Rattle.race_laws.proofs.Played.{played_runs}
use Rattle.race_laws.proofs.Alone.{step_refines}
use Rattle.race_laws.proofs.Told.{runs_go}
use Rattle.race_laws.proofs.alone_laws.played_plans.Goals as goal

pub returns-clause-runs : goal.returns-clause-runs
returns-clause-runs c = played_runs

pub returns-clause-refines : goal.returns-clause-refines
returns-clause-refines c = step_refines

pub returns-clause-told : goal.returns-clause-told
returns-clause-told c = runs_go
