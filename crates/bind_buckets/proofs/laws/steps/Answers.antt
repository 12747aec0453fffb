use Rattle.bind_buckets.proofs.StaysAgreed.{step_agrees}
use Rattle.bind_buckets.proofs.StaysSound.{sound_called}
use Rattle.bind_buckets.proofs.laws.steps.Goals as goal

pub returns-clause-agree : goal.returns-clause-agree
returns-clause-agree c = step_agrees

pub returns-clause-sound : goal.returns-clause-sound
returns-clause-sound c = sound_called
