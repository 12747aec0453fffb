use Rattle.std.proofs.Common.{rules, ap}
use Rattle.shared_calls.specs.Sharings.{GivesLooker, HasNoLooker}
use Rattle.inet_c.specs.Owned.{held}
use Rattle.inet_c.proofs.Holding.{hands_on}
use Rattle.inet_c.proofs.handing.hand_looker.Goals as goal

pub returns-in-Some : goal.returns-in-Some
returns-in-Some c = hands_on GivesLooker HasNoLooker _ _ _ _ _ _ _ _ c.give_looker-making.ensures (ap held c.is_held.ensures.same) (search rules) (search rules)
