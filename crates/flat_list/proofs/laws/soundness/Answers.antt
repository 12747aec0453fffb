use Rattle.flat_list.proofs.Soundness.{starts, stays, runs}
use Rattle.flat_list.proofs.laws.soundness.Goals as goal

pub returns-clause-starts : goal.returns-clause-starts
returns-clause-starts c = starts

pub returns-clause-stays : goal.returns-clause-stays
returns-clause-stays c = stays

pub returns-clause-runs : goal.returns-clause-runs
returns-clause-runs c = runs
