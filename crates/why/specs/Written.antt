-- What is written for a text, and which status it gets. Our own rules.
--
-- To be read from the end: `IsEnd`, `WritesAnswer`, `WritesFrontOfAnswer` and `Answers` are what contracts cite, and
-- each stands on those above it.
use Rattle.std.specs.Prelude.{◌≡◌, ◌^◌, ◌≤◌, ◌<◌, ℕ, List, length, codes, Option}
use Rattle.std.specs.Io.KnownBytes.{Appends}
use Rattle.inet_io.specs.Ends.{AppendsFront, ReadsWhole}
use Rattle.capture_reader.specs.declared.flaw.HeadFlaw.{HeadFlaw}
use Rattle.sock_script.specs.declared.parse.Mode.{Mode}
use Rattle.refusals.specs.declared.reason.Reason.{Reason}
use Rattle.refusals.specs.Reasons.{IsRefusedFor, IsSound, HasBadCapture}
use Rattle.refusals.specs.Captures.{capture_text}
use Rattle.refusals.specs.Texts.{refusal_text}
use Rattle.record_reasons.specs.declared.answer.Outcome.{Outcome}
use Rattle.record_reasons.specs.declared.answer.Outcome.TheVariants as outcomes
use Rattle.record_reasons.specs.Answers.{IsExplained}
use Rattle.why.specs.declared.input.Input.{Input}
use Rattle.why.specs.declared.input.Input.TheVariants as inputs
use Rattle.why.specs.declared.status.Status.{Status}
use Rattle.why.specs.declared.status.Status.TheVariants.{Done, Usage, BadScript, BadCapture, TooLong, ReadFault, WriteFault, Memory, BadRecord, Refuted}

-- the most bytes that an input may have
abbrev pub limit : ℕ
limit = 2 ^ 24

-- The input was read to its end: it is these bytes, and within the limit.
pub record ReadsInput (old new : Option (List ℕ)) (bytes : List ℕ) : Type 0 where
  pub whole : ReadsWhole old new bytes
  pub within : length bytes ≤ limit

-- what is written where nothing is refused
unfoldable pub sound_text : List ℕ
sound_text = codes "no line is refused, and no capture\n"

-- The answer to these bytes has that status, and this is written: that nothing is refused; or the first line that is,
-- with the reason; or what is wrong with the capture's first bytes.
abbrev pub IsScriptAnswer : Mode → List ℕ → Status → List ℕ → Type 0
IsScriptAnswer mode bytes Done text = IsSound mode bytes × (text ≡ sound_text)
IsScriptAnswer mode bytes (BadScript n) text =
    (line : List ℕ) × (reason : Reason) × IsRefusedFor mode bytes n line reason × (text ≡ refusal_text n line reason)
IsScriptAnswer mode bytes BadCapture text =
    (flaw : HeadFlaw) × HasBadCapture mode bytes flaw × (text ≡ capture_text flaw)
IsScriptAnswer mode bytes _ text = ⊥

-- the status of what a text is that is to be a record
abbrev pub outcome_status : Outcome → Status
outcome_status outcomes.Passes = Done
outcome_status (outcomes.BadLine n) = BadRecord n
outcome_status (outcomes.Refuted n) = Refuted n

-- The answer to these bytes has that status, and this is written: that the record passes; or the first line that keeps
-- them from being a record; or the line at which it is refuted.
abbrev pub IsRecordAnswer : List ℕ → Status → List ℕ → Type 0
IsRecordAnswer bytes status text =
    (outcome : Outcome) × IsExplained bytes outcome text × (status ≡ outcome_status outcome)

abbrev pub IsAnswer : Input → List ℕ → Status → List ℕ → Type 0
IsAnswer (inputs.Script mode) bytes status text = IsScriptAnswer mode bytes status text
IsAnswer inputs.Record bytes status text = IsRecordAnswer bytes status text

-- an answer has that status
abbrev pub IsEnd : Status → Type 0
IsEnd Done = Unit {0}
IsEnd (BadScript n) = Unit {0}
IsEnd BadCapture = Unit {0}
IsEnd (BadRecord n) = Unit {0}
IsEnd (Refuted n) = Unit {0}
IsEnd _ = ⊥

-- The input was read to its end, and written grew by what is written of its answer, which has that status.
abbrev pub WritesAnswer
    : Input → Option (List ℕ) → Option (List ℕ) → Option (List ℕ) → Option (List ℕ) → Status → Type 0
WritesAnswer input left left' written written' status =
    (bytes text : List ℕ) × ReadsInput left left' bytes × IsAnswer input bytes status text × Appends written written' text

-- The input was read to its end, and written grew by a front of what was to be written, without the last byte.
abbrev pub WritesFrontOfAnswer : Input → Option (List ℕ) → Option (List ℕ) → Option (List ℕ) → Option (List ℕ) → Type 0
WritesFrontOfAnswer input left left' written written' =
    (bytes text : List ℕ) × (status : Status) × ReadsInput left left' bytes × IsAnswer input bytes status text
    × AppendsFront written written' text

-- these bytes have an answer of that status
abbrev pub HasAnswer : Input → List ℕ → Status → Type 0
HasAnswer input bytes status = (text : List ℕ) × IsAnswer input bytes status text

-- These bytes, read so, can get the status: that of their answer, where they are within the limit. A failed read and
-- want of memory may come whatever they are; a failed write comes once they were read, so within the limit.
abbrev pub Answers : Input → List ℕ → Status → Type 0
Answers input bytes Done = (length bytes ≤ limit) × HasAnswer input bytes Done
Answers input bytes Usage = ⊥
Answers input bytes (BadScript n) = (length bytes ≤ limit) × HasAnswer input bytes (BadScript n)
Answers input bytes BadCapture = (length bytes ≤ limit) × HasAnswer input bytes BadCapture
Answers input bytes TooLong = limit < length bytes
Answers input bytes ReadFault = Unit {0}
Answers input bytes WriteFault = length bytes ≤ limit
Answers input bytes Memory = Unit {0}
Answers input bytes (BadRecord n) = (length bytes ≤ limit) × HasAnswer input bytes (BadRecord n)
Answers input bytes (Refuted n) = (length bytes ≤ limit) × HasAnswer input bytes (Refuted n)
