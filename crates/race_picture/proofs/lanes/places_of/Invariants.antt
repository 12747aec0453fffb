use Rattle.std.proofs.Common.{◌≡◌, ◌++◌, drop}
use Rattle.race_picture.specs.Lanes.{places_from}
use Rattle.race_picture.proofs.lanes.places_of.Given as goal

abbrev pub invariant-loop-at : goal.invariant-loop-at
invariant-loop-at l = l.places.items ++ places_from l.at (drop l.at l.lines) ≡ places_from 0 l.lines
