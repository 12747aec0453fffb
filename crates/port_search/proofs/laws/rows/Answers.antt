use Rattle.std.proofs.Common.{refl}
use Rattle.sock_card.specs.Conflict.{overlap}
use Rattle.bind_buckets.specs.OwnerStep.{owner_step}
use Rattle.port_search.proofs.laws.rows.Goals as goal

pub returns : goal.returns
unfolding owner_step overlap
returns c = record { first = refl; second = refl; third = refl; fourth = refl; answers = refl }
