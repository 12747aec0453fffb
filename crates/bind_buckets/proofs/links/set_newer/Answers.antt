use Rattle.std.proofs.Common.{refl}
use Rattle.std.proofs.Math.Seq.{map-set_same}
use Rattle.std.proofs.lemmas.List.{map-set}
use Rattle.bind_buckets.specs.declared.links.Place.{Place}
use Rattle.bind_buckets.proofs.links.set_newer.Goals as goal

pub returns-clause-keys : goal.returns-clause-keys
returns-clause-keys c =
    map-set_same (λ (p : Place). p.key) c.args.places.now c.args.place _ _ refl

pub returns-clause-newers : goal.returns-clause-newers
returns-clause-newers c = map-set (λ (p : Place). p.newer) c.args.places.now c.args.place _
