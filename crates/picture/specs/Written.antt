-- What is written for a text, and which status it gets. Our own rules.
--
-- To be read from the end: `IsEnd`, `WritesOutcome`, `WritesFrontOfOutcome` and `Answers` are what contracts cite, and
-- each stands on those above it.
use Rattle.std.specs.Prelude.{◌≡◌, ◌^◌, ◌≤◌, ◌<◌, ℕ, List, ◌++◌, length, codes, decimal, Option}
use Rattle.std.specs.Io.KnownBytes.{Appends}
use Rattle.inet_io.specs.Ends.{AppendsFront, ReadsWhole}
use Rattle.record_reader.specs.declared.audit.Verdict.{Verdict}
use Rattle.record_reader.specs.declared.audit.Verdict.TheVariants as verdicts
use Rattle.record_reader.specs.Record.{IsFirstOutside}
use Rattle.race_picture.specs.Picture.{IsPictureOf}
use Rattle.picture.specs.declared.serve.Outcome.{Outcome}
use Rattle.picture.specs.declared.serve.Outcome.TheVariants as outcomes
use Rattle.picture.specs.declared.status.Status.{Status}
use Rattle.picture.specs.declared.status.Status.TheVariants.{Done, Usage, TooLong, ReadFault, WriteFault, Memory, BadRecord, Refuted}

-- the most bytes that an input may have
abbrev pub limit : ℕ
limit = 2 ^ 24

-- The input was read to its end: it is these bytes, and within the limit.
pub record ReadsInput (old new : Option (List ℕ)) (bytes : List ℕ) : Type 0 where
  pub whole : ReadsWhole old new bytes
  pub within : length bytes ≤ limit

-- what is written where a text is no record
abbrev pub bad_text : ℕ → List ℕ
bad_text n = codes "bad record line " ++ decimal n ++ codes "\n"

-- the outcome of these bytes, and what is written of it: the picture, or the first line that keeps them from being a
-- record
abbrev pub IsOutcome : List ℕ → Outcome → List ℕ → Type 0
IsOutcome bytes (outcomes.Drawn verdict) text = IsPictureOf bytes verdict text
IsOutcome bytes (outcomes.BadLine n) text = IsFirstOutside bytes n × (text ≡ bad_text n)

abbrev pub verdict_status : Verdict → Status
verdict_status (verdicts.Yes lives packets clock) = Done
verdict_status (verdicts.No line why) = Refuted line

-- the status of an outcome
abbrev pub outcome_status : Outcome → Status
outcome_status (outcomes.Drawn verdict) = verdict_status verdict
outcome_status (outcomes.BadLine n) = BadRecord n

-- These bytes have an outcome of that status.
abbrev pub HasOutcome : List ℕ → Status → Type 0
HasOutcome bytes status =
    (outcome : Outcome) × (text : List ℕ) × IsOutcome bytes outcome text × (outcome_status outcome ≡ status)

-- an outcome has that status
abbrev pub IsEnd : Status → Type 0
IsEnd Done = Unit {0}
IsEnd (Refuted n) = Unit {0}
IsEnd (BadRecord n) = Unit {0}
IsEnd _ = ⊥

-- The input was read to its end, and written grew by what is written of its outcome, which has that status.
abbrev pub WritesOutcome
    : Option (List ℕ) → Option (List ℕ) → Option (List ℕ) → Option (List ℕ) → Status → Type 0
WritesOutcome left left' written written' status =
    (bytes text : List ℕ) × (outcome : Outcome) × ReadsInput left left' bytes × IsOutcome bytes outcome text
    × (outcome_status outcome ≡ status) × Appends written written' text

-- The input was read to its end, and written grew by a front of what was to be written, without the last byte.
abbrev pub WritesFrontOfOutcome : Option (List ℕ) → Option (List ℕ) → Option (List ℕ) → Option (List ℕ) → Type 0
WritesFrontOfOutcome left left' written written' =
    (bytes text : List ℕ) × (outcome : Outcome) × ReadsInput left left' bytes × IsOutcome bytes outcome text
    × AppendsFront written written' text

-- These bytes, read so, can get the status: that of their outcome, where they are within the limit. A failed
-- read and want of memory may come whatever they are; a failed write comes once they were read, so within the
-- limit.
abbrev pub Answers : List ℕ → Status → Type 0
Answers bytes Done = (length bytes ≤ limit) × HasOutcome bytes Done
Answers bytes Usage = ⊥
Answers bytes TooLong = limit < length bytes
Answers bytes ReadFault = Unit {0}
Answers bytes WriteFault = length bytes ≤ limit
Answers bytes Memory = Unit {0}
Answers bytes (BadRecord n) = (length bytes ≤ limit) × HasOutcome bytes (BadRecord n)
Answers bytes (Refuted n) = (length bytes ≤ limit) × HasOutcome bytes (Refuted n)
