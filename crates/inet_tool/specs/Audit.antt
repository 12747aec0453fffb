-- What `audit` writes for a text, and which status it gets. Our own rules.
--
-- To be read from the end: `IsEnd`, `WritesOutcome`, `WritesFrontOfOutcome` and `AuditAnswers` are what contracts
-- cite, and each stands on those above it.
use Rattle.std.specs.Prelude.{◌≡◌, ◌≤◌, ◌<◌, ℕ, List, ◌++◌, length, codes, decimal, Option}
use Rattle.std.specs.Io.KnownBytes.{Appends}
use Rattle.inet_io.specs.Ends.{AppendsFront}
use Rattle.book_audit.specs.declared.printed.Why.{Why}
use Rattle.book_audit.specs.declared.printed.Why.TheVariants as whys
use Rattle.record_reader.specs.declared.audit.Verdict.{Verdict}
use Rattle.record_reader.specs.declared.audit.Verdict.TheVariants as verdicts
use Rattle.record_reader.specs.Record.{IsFirstOutside}
use Rattle.record_reader.specs.Verdicts.{IsVerdict}
use Rattle.inet_tool.specs.declared.audit.Outcome.{Outcome}
use Rattle.inet_tool.specs.declared.audit.Outcome.TheVariants as outcomes
use Rattle.inet_tool.specs.declared.status.Status.{Status}
use Rattle.inet_tool.specs.declared.status.Status.TheVariants.{Done, Usage, BadScript, BadCapture, TooLong, ReadFault, WriteFault, Memory, BadRecord, Refuted}
use Rattle.inet_tool.specs.Table.{limit, ReadsInput}

-- the word for a test
abbrev pub why_word : Why → List ℕ
why_word whys.Stamp = codes "stamp"
why_word whys.Home = codes "home"
why_word whys.Overlap = codes "overlap"
why_word whys.Slot = codes "slot"
why_word whys.Twin = codes "twin"
why_word whys.Receipt = codes "receipt"
why_word whys.Count = codes "count"

-- the line that states a verdict
abbrev pub verdict_text : Verdict → List ℕ
verdict_text (verdicts.Yes lives packets clock) =
    codes "yes lives " ++ decimal lives ++ codes " packets " ++ decimal packets ++ codes " clock " ++ decimal clock
    ++ codes "\n"
verdict_text (verdicts.No line why) = codes "no line " ++ decimal line ++ codes " " ++ why_word why ++ codes "\n"

-- the line that states an outcome: a verdict, or the first line that keeps a text from being a record
abbrev pub outcome_text : Outcome → List ℕ
outcome_text (outcomes.Judged verdict) = verdict_text verdict
outcome_text (outcomes.BadLine n) = codes "bad record line " ++ decimal n ++ codes "\n"

abbrev pub verdict_status : Verdict → Status
verdict_status (verdicts.Yes lives packets clock) = Done
verdict_status (verdicts.No line why) = Refuted line

-- the status of an outcome
abbrev pub outcome_status : Outcome → Status
outcome_status (outcomes.Judged verdict) = verdict_status verdict
outcome_status (outcomes.BadLine n) = BadRecord n

-- the outcome of these bytes
abbrev pub IsOutcome : List ℕ → Outcome → Type 0
IsOutcome bytes (outcomes.Judged verdict) = IsVerdict bytes verdict
IsOutcome bytes (outcomes.BadLine n) = IsFirstOutside bytes n

-- These bytes have an outcome of that status.
abbrev pub HasOutcome : List ℕ → Status → Type 0
HasOutcome bytes status = (outcome : Outcome) × IsOutcome bytes outcome × (outcome_status outcome ≡ status)

-- an outcome has that status
abbrev pub IsEnd : Status → Type 0
IsEnd Done = Unit {0}
IsEnd (Refuted n) = Unit {0}
IsEnd (BadRecord n) = Unit {0}
IsEnd _ = ⊥

-- The input was read to its end, and written grew by the line that states its outcome, which has that status.
abbrev pub WritesOutcome
    : Option (List ℕ) → Option (List ℕ) → Option (List ℕ) → Option (List ℕ) → Status → Type 0
WritesOutcome left left' written written' status =
    (bytes : List ℕ) × (outcome : Outcome) × ReadsInput left left' bytes × IsOutcome bytes outcome
    × (outcome_status outcome ≡ status) × Appends written written' (outcome_text outcome)

-- The input was read to its end, and written grew by a front of the line that was to state its outcome,
-- without the last byte.
abbrev pub WritesFrontOfOutcome : Option (List ℕ) → Option (List ℕ) → Option (List ℕ) → Option (List ℕ) → Type 0
WritesFrontOfOutcome left left' written written' =
    (bytes : List ℕ) × (outcome : Outcome) × ReadsInput left left' bytes × IsOutcome bytes outcome
    × AppendsFront written written' (outcome_text outcome)

-- These bytes, read so, can get the status: that of their outcome, where they are within the limit. A failed
-- read and want of memory may come whatever they are; a failed write comes once they were read, so within the
-- limit.
abbrev pub AuditAnswers : List ℕ → Status → Type 0
AuditAnswers bytes Done = (length bytes ≤ limit) × HasOutcome bytes Done
AuditAnswers bytes Usage = ⊥
AuditAnswers bytes (BadScript n) = ⊥
AuditAnswers bytes BadCapture = ⊥
AuditAnswers bytes TooLong = limit < length bytes
AuditAnswers bytes ReadFault = Unit {0}
AuditAnswers bytes WriteFault = length bytes ≤ limit
AuditAnswers bytes Memory = Unit {0}
AuditAnswers bytes (BadRecord n) = (length bytes ≤ limit) × HasOutcome bytes (BadRecord n)
AuditAnswers bytes (Refuted n) = (length bytes ≤ limit) × HasOutcome bytes (Refuted n)
