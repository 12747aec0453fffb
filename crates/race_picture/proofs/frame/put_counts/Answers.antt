use Rattle.std.proofs.Common.{refl}
use Rattle.race_picture.proofs.Joined.{three}
use Rattle.race_picture.proofs.frame.put_counts.Goals as goal

pub returns : goal.returns
returns c =
    three c.put_counted-3.result _ _ _ _ _ _ _ _ c.in_ok-put_counted.ensures c.in_ok-put_counted-2.ensures c.put_counted-3.ensures refl
