use Rattle.flat_list.proofs.SlotsStay.{slots_stay}
use Rattle.flat_list.proofs.laws.slots.Goals as goal

pub returns : goal.returns
returns c = slots_stay
