use Rattle.std.proofs.Common.{subst}
use Rattle.label_index.specs.Firsts.{Tell}
use Rattle.label_index.proofs.Noted.{hashed_stay}
use Rattle.label_index.proofs.index.make_room.Goals as goal

pub returns-in-Hashed : goal.returns-in-Hashed
returns-in-Hashed c labels tells =
    hashed_stay c.in-Hashed.places c.reserve.new.self c.reserve.ensures.entries.2 labels (subst (λ f. Tell f labels) c.in-Hashed.is tells)
