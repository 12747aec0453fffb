-- What the program reads, and what it writes for that. Our own rules.
--
-- To be read upwards from what contracts cite: `HasFault` and `IsGood`, of what is read; `WritesFlatOut`,
-- `WritesFault` and `WritesFront`, of a run; `WritesCounts` and `WritesFrontOfCounts`, of `make`.
use Rattle.std.specs.Prelude.{◌≡◌, ◌≢◌, ◌≤◌, ℕ, ◌^◌, List, [], ◌++◌, length, codes, decimal, Option, Some, None}
use Rattle.std.specs.Io.KnownBytes.{Appends}
use Rattle.inet_io.specs.Ends.{ReadsWhole, AppendsFront}
use Rattle.sock_script.specs.declared.parse.Mode.{Mode}
use Rattle.sock_script.specs.declared.parse.Mode.TheVariants as modes
use Rattle.sock_script.specs.Words.{lines_of}
use Rattle.list_words.specs.Lists.{Each}
use Rattle.capture_reader.specs.Captures.{Capture}
use Rattle.capture_reader.specs.Grammar.{IsCapture}
use Rattle.capture_reader.specs.Header.{HasHeader}
use Rattle.flat_list.specs.Script.{Script}
use Rattle.flat_list.specs.Sound.{IsSound}
use Rattle.sock_script.specs.Grammar.{IsScript, IsFirstOutside, capture_bytes, capture_device, capture_namespace}
use Rattle.sock_script.specs.Output.{FlatOut, flat_replies, lists_of}
use Rattle.sock_script.specs.Make.{made_text}
use Rattle.sock_script.specs.Counts.{script_counts, counts_text}
use Rattle.inet_tool.specs.declared.fault.Fault.{Fault}
use Rattle.inet_tool.specs.declared.fault.Fault.TheVariants as faults

-- the most bytes that an input may have: 16,777,216
abbrev pub limit : ℕ
limit = 2 ^ 24

-- The input was read to its end: it is these bytes, and within the limit.
pub record ReadsInput (old new : Option (List ℕ)) (bytes : List ℕ) : Type 0 where
  pub whole : ReadsWhole old new bytes
  pub within : length bytes ≤ limit

-- the bytes are a script, but what it has for a capture is none: it isn't empty, and has no header of one
abbrev pub HasBadCapture : Mode → List ℕ → Type 0
HasBadCapture mode bytes =
    (script : Script) × IsScript mode bytes script × (capture_bytes script.capture bytes ≢ [])
    × ¬ (HasHeader (capture_bytes script.capture bytes))

-- the bytes have that fault: the first line outside the grammar, or a script's capture that is none
abbrev pub HasFault : Mode → List ℕ → Fault → Type 0
HasFault mode bytes (faults.Line n) = IsFirstOutside mode (lines_of bytes) n
HasFault mode bytes faults.Capture = HasBadCapture mode bytes

-- the line that states a fault
abbrev pub fault_text : Fault → List ℕ
fault_text (faults.Line n) = codes "bad script line " ++ decimal n ++ codes "\n"
fault_text faults.Capture = codes "bad capture\n"

-- the bytes are a script with a capture, which may be empty
abbrev pub IsGood : Mode → List ℕ → Type 0
IsGood mode bytes =
    (script : Script) × (capture : Capture) × IsScript mode bytes script
    × IsCapture (capture_device script.capture) (capture_namespace script.capture)
    (capture_bytes script.capture bytes) capture

-- Whatever script these bytes are, each list that it runs through is sound: no two bound sockets of different origin
-- conflict, but for those whose ports `connect` chose, and no two sockets of one namespace that are full, in
-- TIME_WAIT or requests have one four-tuple.
abbrev pub InputRunsSound : List ℕ → Type 0
InputRunsSound bytes =
    (script : Script) → IsScript modes.Run bytes script → Each IsSound (lists_of script)

-- what a run writes for a script: the flat list's output
abbrev pub IsRunOf : List ℕ → List ℕ → Type 0
IsRunOf bytes out = FlatOut bytes out × InputRunsSound bytes

-- what is written for a script's bytes
abbrev pub Output : Type 1
Output = List ℕ → List ℕ → Type 0

-- The text is what is to be written for an input, where `Out` is written for a script: that, or the line that states
-- the input's fault, where it has one.
abbrev pub IsReply : Mode → Output → List ℕ → Option Fault → List ℕ → Type 0
IsReply mode Out bytes None text = Out bytes text
IsReply mode Out bytes (Some fault) text = HasFault mode bytes fault × (text ≡ fault_text fault)

-- The input was read to its end, and written grew by what is written for it.
abbrev pub WritesOut : Output → Option (List ℕ) → Option (List ℕ) → Option (List ℕ) → Option (List ℕ) → Type 0
WritesOut Out left left' written written' =
    (bytes out : List ℕ) × ReadsInput left left' bytes × Out bytes out × Appends written written' out

-- The input was read to its end and is a script, and written grew by the flat list's output of it.
abbrev pub WritesFlatOut : Option (List ℕ) → Option (List ℕ) → Option (List ℕ) → Option (List ℕ) → Type 0
WritesFlatOut = WritesOut IsRunOf

-- The input was read to its end and has that fault, and written grew by the line that states it.
abbrev pub WritesFault : Mode → Option (List ℕ) → Option (List ℕ) → Option (List ℕ) → Option (List ℕ) → Fault → Type 0
WritesFault mode left left' written written' fault =
    (bytes : List ℕ) × ReadsInput left left' bytes × HasFault mode bytes fault
    × Appends written written' (fault_text fault)

-- The input was read to its end, and written grew by a front of what was to be written for it, without the last byte.
abbrev pub WritesFront : Mode → Output → Option (List ℕ) → Option (List ℕ) → Option (List ℕ) → Option (List ℕ) → Type 0
WritesFront mode Out left left' written written' =
    (bytes text : List ℕ) × (fault : Option Fault) × ReadsInput left left' bytes × IsReply mode Out bytes fault text
    × AppendsFront written written' text

-- The text is the counts of a generated text's commands, by the flat list's replies to them.
abbrev pub CountsMade : ℕ → ℕ → List ℕ → Type 0
CountsMade seed count text =
    (script : Script) × IsScript modes.Run (made_text seed count) script
    × (text ≡ counts_text (script_counts script (flat_replies script [])))

-- Written grew by the counts of the generated text of a seed and so many steps.
abbrev pub WritesCounts : Option (List ℕ) → Option (List ℕ) → ℕ → ℕ → Type 0
WritesCounts written written' seed count = (text : List ℕ) × CountsMade seed count text × Appends written written' text

-- Written grew by a front of them, without the last byte.
abbrev pub WritesFrontOfCounts : Option (List ℕ) → Option (List ℕ) → ℕ → ℕ → Type 0
WritesFrontOfCounts written written' seed count =
    (text : List ℕ) × CountsMade seed count text × AppendsFront written written' text
