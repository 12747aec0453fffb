use Rattle.std.proofs.Common.{◌≡◌, take, length}
use Rattle.shared_calls.specs.Batches.{LooksMany}
use Rattle.shared_calls.proofs.looker.Looker.sight_all.Given as goal

abbrev pub invariant-loop-i : goal.invariant-loop-i
invariant-loop-i l = LooksMany l.passes l.after l.fn.self (take l.i l.packets) (take l.i l.sightings) l.self
    × (length l.sightings ≡ length l.packets)
