use Rattle.std.proofs.Common.{◌≡◌, ℕ, Bool, true, false, not, List, Some, refl, is_some, sym}
use Rattle.std.specs.List.{list_any}
use Rattle.flat_list.specs.Groups.{Group, join, is_full_group}
use Rattle.flat_list.proofs.group.has_place.Goals as goal

some_unless_full : (bucket name mate : ℕ) (groups : List Group) (full : Bool) → list_any (is_full_group mate) groups ≡ full → not full ≡ is_some (join bucket name (Some mate) groups)
some_unless_full bucket name mate groups true e = rw e refl
some_unless_full bucket name mate groups false e = rw e refl

pub returns-in-Some : goal.returns-in-Some
returns-in-Some c name =
    rw c.in-Some.is (some_unless_full c.args.bucket name c.in-Some.mate c.args.groups.now c.has_full.result (sym c.has_full.ensures))
