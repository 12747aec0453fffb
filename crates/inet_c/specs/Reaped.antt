-- What a worker reports of the reaping of so many TIME_WAITs at most. Our own.
use Rattle.std.specs.Prelude.{◌≡◌, ℕ, Bool, true, false, Option, None, Some, Result, Ok, Err}
use Rattle.flat_calls.specs.Errnos as errnos
use Rattle.flat_calls.specs.declared.outcome.Outcome.{Outcome}
use Rattle.flat_calls.specs.declared.outcome.Outcome.TheVariants as outcomes
use Rattle.section_machine.specs.declared.reaping.Gone.{Gone}
use Rattle.section_machine.specs.declared.reaping.Gone.TheVariants as reapings
use Rattle.shared_calls.specs.Reapings.{ReapsUnder}
use Rattle.shared_calls.specs.declared.limited.Limited.{Limited}

-- a worker reaped so; a handle that holds none says so, and stays so
abbrev pub WorkerReaps : Option Limited → Option Limited → (most : ℕ) → Result Gone Outcome → Type 0
WorkerReaps None new most reaped = (new ≡ None) × (reaped ≡ Err outcomes.NoTables)
WorkerReaps (Some old) None most reaped = ⊥
WorkerReaps (Some old) (Some new) most reaped = ReapsUnder old new most reaped

-- how many were still there, whether more have lasted their minute, and the errno
abbrev pub count_of : Result Gone Outcome → ℕ
count_of (Ok (reapings.All count)) = count
count_of (Ok (reapings.More count)) = count
count_of (Err outcome) = 0

abbrev pub has_more : Result Gone Outcome → Bool
has_more (Ok (reapings.More count)) = true
has_more _ = false

abbrev pub errno_of : Result Gone Outcome → ℕ
errno_of (Ok reaped) = 0
errno_of (Err outcome) = errnos.errno_of outcome
