use Rattle.std.proofs.Common.{◌≡◌, take}
use Rattle.std.specs.List.{flat_map}
use Rattle.book_audit.specs.Stays.{stays_of}
use Rattle.book_audit.proofs.clashes.is_clear.Given as goal

abbrev pub invariant-loop-life : goal.invariant-loop-life
invariant-loop-life l = l.stays.items ≡ flat_map (stays_of l.clash) (take l.life-index l.lives)
