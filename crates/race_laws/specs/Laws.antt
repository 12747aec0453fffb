-- What `audit` says of the text of a lawful race: our own.
use Rattle.std.specs.Prelude.{◌≡◌, ℕ, ◌<◌, ◌≤◌, ◌^◌, List, length, Result, Ok, Err}
use Rattle.capture_reader.specs.Captures.{Capture}
use Rattle.capture_reader.specs.Numbers.{AreBytes}
use Rattle.flat_list.specs.Script.{Script}
use Rattle.race_book.specs.Listed.{lives_of}
use Rattle.race_record.specs.Record.{Race}
use Rattle.race_record.specs.Lawful.{Lawful}
use Rattle.race_text.specs.Render.{HasRace, RaceOut, render}
use Rattle.record_reader.specs.declared.audit.Verdict.{Verdict}
use Rattle.record_reader.specs.declared.audit.Verdict.TheVariants as verdicts
use Rattle.record_reader.specs.declared.read.ReadEnd.{ReadEnd}
use Rattle.record_reader.specs.declared.read.ReadEnd.TheVariants as ends
use Rattle.record_reader.specs.Record.{IsFirstOutside}
use Rattle.record_reader.specs.Verdicts.{IsVerdict}

-- the race is a lawful one of what stands in an input of 16 MiB at most
pub record IsLawfulOf (input : List ℕ) (script : Script) (capture : Capture) (race : Race) : Type 0 where
  -- the input is so many bytes at most, and is that script with that capture
  pub bytes : AreBytes input
  pub room : length input ≤ 2 ^ 24
  pub has : HasRace input script capture
  -- the race is one of theirs
  pub lawful : Lawful script capture race
  -- the two numbers of the command line are of 64 bits: no field of a lawful race bounds them
  pub lookers : race.lookers < 2 ^ 64
  pub passes : race.passes < 2 ^ 64

-- yes, with the lives, the packets and the clock of that race
abbrev pub yes_of : Race → Verdict
yes_of race = verdicts.Yes (length (lives_of race.book)) (length race.looked) race.clock

-- the answer is that, or there was no memory
abbrev pub IsYesOrMemory : Verdict → Result Verdict ReadEnd → Type 0
IsYesOrMemory known (Ok verdict) = verdict ≡ known
IsYesOrMemory known (Err ends.Memory) = Unit {0}
IsYesOrMemory known (Err (ends.BadLine n)) = ⊥

-- what the contract of `audit` says of an answer
pub record IsAnswer (text : List ℕ) (answer : Result Verdict ReadEnd) : Type 0 where
  pub verdict : (v : Verdict) → answer ≡ Ok v → IsVerdict text v
  pub bad : (n : ℕ) → answer ≡ Err (ends.BadLine n) → IsFirstOutside text n

-- each verdict on the text of a lawful race is yes
abbrev pub LawfulIsYes : Type 0
LawfulIsYes =
    (input : List ℕ) (script : Script) (capture : Capture) (race : Race) → IsLawfulOf input script capture race
    → (v : Verdict) → IsVerdict (render race) v → v ≡ yes_of race

-- and it has a verdict: no line of it is outside
abbrev pub LawfulIsRecord : Type 0
LawfulIsRecord =
    (input : List ℕ) (script : Script) (capture : Capture) (race : Race) → IsLawfulOf input script capture race
    → (n : ℕ) → ¬ (IsFirstOutside (render race) n)

-- so `audit` of the text answers yes, or has no memory
abbrev pub LawfulPasses : Type 0
LawfulPasses =
    (input : List ℕ) (script : Script) (capture : Capture) (race : Race) → IsLawfulOf input script capture race
    → (answer : Result Verdict ReadEnd) → IsAnswer (render race) answer → IsYesOrMemory (yes_of race) answer

-- a yes, or want of memory
abbrev pub SaysYes : Result Verdict ReadEnd → Type 0
SaysYes (Ok (verdicts.Yes lives packets clock)) = Unit {0}
SaysYes (Ok (verdicts.No line why)) = ⊥
SaysYes (Err ends.Memory) = Unit {0}
SaysYes (Err (ends.BadLine n)) = ⊥

-- so it is of whatever text is written for an input of 16 MiB at most
abbrev pub WrittenPasses : Type 0
WrittenPasses =
    (lookers passes : ℕ) (input out : List ℕ) → lookers < 2 ^ 64 → passes < 2 ^ 64 → AreBytes input
    → length input ≤ 2 ^ 24
    → RaceOut lookers passes input out → (answer : Result Verdict ReadEnd) → IsAnswer out answer → SaysYes answer
