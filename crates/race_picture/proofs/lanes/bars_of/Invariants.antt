use Rattle.std.proofs.Common.{◌≡◌, ◌++◌, drop, None}
use Rattle.race_picture.specs.Lanes.{bars_from}
use Rattle.race_picture.proofs.lanes.bars_of.Given as goal

abbrev pub invariant-loop-place : goal.invariant-loop-place
invariant-loop-place l =
    l.bars.items ++ bars_from l.before l.lane (drop l.place-index l.places) ≡ bars_from None 0 l.places
