use Rattle.std.proofs.Common.{refl}
use Rattle.sock_card.specs.Conflict.{overlap, refuses}
use Rattle.bind_buckets.specs.OwnerStep.{owner_step}
use Rattle.bind_buckets.proofs.laws.rows.Goals as goal

pub returns : goal.returns
unfolding owner_step overlap refuses
returns c = record { users = refl; listeners = refl; child = refl; beside_child = refl; strict = refl; waiting = refl; beside_waiting = refl; leaver = refl }
