use Rattle.race_laws.proofs.Handovers.{acks_hand_over}
use Rattle.race_laws.proofs.laws.handovers.Goals as goal

pub returns : goal.returns
returns c = record { order = acks_hand_over }
