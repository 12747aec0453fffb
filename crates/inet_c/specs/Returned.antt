-- How workers and lookers are given back to shared tables. Our own.
use Rattle.std.specs.Prelude.{◌≡◌, ◌⊎◌, ℤ, pos, Option, None, Some}
use Rattle.shared_calls.specs.Lookings.{Looking}
use Rattle.shared_calls.specs.Sharings.{Sharing, MayComeBack, LookerMayComeBack, TakesBack, TakesLookerBack}
use Rattle.shared_calls.specs.declared.limited.Limited.{Limited}
use Rattle.inet_c.specs.declared.errno.TheConstants.{EBADF, EINVAL}
use Rattle.inet_c.specs.declared.returning.Returning.{Returning}
use Rattle.inet_c.specs.declared.returning.Returning.TheVariants as returnings

-- What came of it, by what the tables may take and how they take it: it went from its handle, which holds nothing then,
-- into the tables of the other, or both are as they were. The causes exclude each other.
abbrev pub Returns : {S : Type 0} → (Sharing → S → Type 0) → (Sharing → Sharing → S → Type 0)
    → Option Sharing → Option Sharing → Option S → Option S → Returning → Type 0
Returns May Takes (Some from) (Some to) (Some old) new returnings.Back =
    May from old × Takes from to old × (new ≡ None)
Returns May Takes (Some from) to (Some old) new returnings.Strange =
    (May from old → ⊥) × (to ≡ Some from) × (new ≡ Some old)
Returns May Takes from to old new returnings.NoTables = ((from ≡ None) ⊎ (old ≡ None)) × (to ≡ from) × (new ≡ old)
Returns May Takes _ _ _ _ _ = ⊥

-- a worker has the tables' tag, and of those that were made one isn't there; it waits then with those, the last of them
-- first
abbrev pub WorkerReturns : Option Sharing → Option Sharing → Option Limited → Option Limited → Returning → Type 0
WorkerReturns = Returns (λ tables w. MayComeBack tables w.caller) (λ from to w. TakesBack from to w.caller)

-- so a looker
abbrev pub LookerReturns : Option Sharing → Option Sharing → Option Looking → Option Looking → Returning → Type 0
LookerReturns = Returns LookerMayComeBack TakesLookerBack

-- EBADF where a handle holds nothing, EINVAL of what is not theirs
abbrev pub errno_of : Returning → ℤ
errno_of returnings.Back = pos 0
errno_of returnings.NoTables = EBADF
errno_of returnings.Strange = EINVAL
