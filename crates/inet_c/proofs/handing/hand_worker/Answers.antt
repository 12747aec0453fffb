use Rattle.std.proofs.Common.{rules, ap}
use Rattle.shared_calls.specs.Sharings.{HasNoCaller}
use Rattle.inet_c.specs.Handed.{IsWorker}
use Rattle.inet_c.specs.Owned.{held}
use Rattle.inet_c.proofs.Holding.{hands_on}
use Rattle.inet_c.proofs.handing.hand_worker.Goals as goal

pub returns-in-Some-clause-hands : goal.returns-in-Some-clause-hands
returns-in-Some-clause-hands c =
    hands_on (IsWorker c.args.limits c.give_worker-making.new.number) HasNoCaller _ _ _ _ _ _ _ _ c.give_worker-making.ensures.hands (ap held c.is_held.ensures.same) (search rules) (search rules)
