-- What reading a source and writing to a sink do, and when they may fail. Short reads, short writes and the end
-- as 0 bytes are those of read(2) and write(2); that a failure is counted is our own rule.
use Rattle.std.specs.Prelude.{◌≡◌, ℕ, ◌+◌, ◌-◌, ◌^◌, ◌<◌, ◌≤◌, min, List, length, take, Result, OnErr}
use Rattle.std.specs.declared.option.Option.{Option}
use Rattle.std.specs.Io.KnownBytes.{Appends, Consumes, IsAtEnd}

-- A count of faults rose in this call, or stands at the last value of a `u64`.
abbrev pub Rose : ℕ → ℕ → Type 0
Rose before now = min (before + 1) (2 ^ 64 - 1) ≤ now

-- The count never falls, and an `Err` comes only where it rose.
pub record HasCause {T E : Type 0} (before now : ℕ) (result : Result T E) : Type 0 where
  pub later : before ≤ now
  pub failed : OnErr result (Rose before now)

-- One call more was counted, up to the last value of a `u64`.
abbrev pub CountsOne : ℕ → ℕ → Type 0
CountsOne before now = now ≡ min (before + 1) (2 ^ 64 - 1)

-- These bytes were left, and nothing else: all of them were read.
pub record ReadsWhole (old new : Option (List ℕ)) (bytes : List ℕ) : Type 0 where
  pub read : Consumes old new bytes
  pub ended : IsAtEnd new

-- More than `limit` bytes were read.
abbrev pub ReadsMoreThan : ℕ → Option (List ℕ) → Option (List ℕ) → Type 0
ReadsMoreThan limit old new = (bytes : List ℕ) × (limit < length bytes) × Consumes old new bytes

-- Of these bytes a front was written, and not the last one.
abbrev pub AppendsFront : Option (List ℕ) → Option (List ℕ) → List ℕ → Type 0
AppendsFront old new bytes = (n : ℕ) × (n < length bytes) × Appends old new (take n bytes)
