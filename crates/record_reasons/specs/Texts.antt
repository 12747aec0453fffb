-- What is written of a record that an audit refutes: our own.
--
-- To be read from the end: `refuted_text` is the whole, and each stands on those above it.
use Rattle.std.specs.Prelude.{ℕ, ◌+◌, ◌-◌, List, [], ◌∷◌, ◌++◌, codes, decimal, take, Option, None, Some, if◌then◌else◌}
use Rattle.book_audit.specs.declared.printed.Printed.{Printed}
use Rattle.book_audit.specs.declared.printed.Why.{Why}
use Rattle.book_audit.specs.declared.printed.Why.TheVariants as whys
use Rattle.record_reader.specs.declared.line.Line.{Line}
use Rattle.record_reasons.specs.declared.cause.Cause.{Cause}
use Rattle.record_reasons.specs.declared.cause.Cause.TheVariants as causes
use Rattle.record_reasons.specs.Lines.{text_at}
use Rattle.record_reasons.specs.Parts.{has_part}
use Rattle.record_reasons.specs.Causes.{cause_at}

-- the word for a test
abbrev pub why_word : Why → List ℕ
why_word whys.Stamp = codes "stamp"
why_word whys.Home = codes "home"
why_word whys.Overlap = codes "overlap"
why_word whys.Slot = codes "slot"
why_word whys.Twin = codes "twin"
why_word whys.Receipt = codes "receipt"
why_word whys.Count = codes "count"

-- what a test asks
unfoldable pub test_text : Why → List ℕ
test_text whys.Stamp = codes "the numbers of a life ascend and are below the clock, and no two lives have one number"
test_text whys.Home = codes "a life stands in the chain in which its socket belongs by the tables' shape and the seed"
test_text whys.Overlap = codes "of two changes in one chain the one ends before the other begins"
test_text whys.Slot = codes "of two lives in one slot the one is on its way out before the other is in"
test_text whys.Twin = codes "of two connected sockets of one four-tuple the one is on its way out before the other is hashed"
test_text whys.Receipt = codes "what a packet found is explained by the lives that stood as it was looked up"
test_text whys.Count = codes "the clock is twice the changes, and one more for each command that found no slot"

-- what keeps the line from passing, but for those with numbers
unfoldable pub plain_text : Cause → List ℕ
plain_text causes.Descends = codes "its numbers don't ascend in the order in which they stand"
plain_text (causes.SharesNumber l) = codes "one of its numbers is a number of:"
plain_text (causes.Overlaps l) = codes "a change of it was under way at once with one of:"
plain_text (causes.SharesSlot l) = codes "its slot had at once with it:"
plain_text (causes.IsTwin l) = codes "its four-tuple had at once with it:"
plain_text causes.Unknown = codes "no life has that kind and name"
plain_text (causes.Absent s) = codes "no life of that kind and name was there during the lookup, but before or after it:"
plain_text (causes.Unlike s) = codes "the packet isn't for what has that kind and name:"
plain_text (causes.Beaten s) = codes "what has that kind and name, and what matches better and was there throughout:"
plain_text (causes.Missed l) = codes "the packet matches what was there throughout:"
plain_text causes.OwnChain = codes "a walk is led astray into another chain, not into its own"
plain_text (causes.NoneInto bucket) = codes "no life was hashed into that chain during the lookup; it had:"
plain_text (causes.NoneIn slot) = codes "no life came into that slot or left it during the lookup; it had:"
plain_text causes.NoneHashed = codes "no life was hashed during the lookup"
plain_text _ = []

unfoldable pub chains_text : ℕ → ℕ → ℕ → List ℕ
chains_text connected listening anywhere =
    codes "the packet's chains are " ++ decimal connected ++ codes ", " ++ decimal listening
    ++ codes " and " ++ decimal anywhere

unfoldable pub count_text : ℕ → ℕ → ℕ → List ℕ
count_text changes vain clock =
    codes "the changes are " ++ decimal changes ++ codes ", the commands that found no slot " ++ decimal vain
    ++ codes ": the clock should be " ++ decimal clock

-- what keeps the line from passing
abbrev pub cause_text : Cause → List ℕ
cause_text (causes.BeyondClock clock) = codes "one of its numbers isn't below the clock, " ++ decimal clock ++ []
cause_text (causes.Stray home) = codes "its socket belongs in chain " ++ decimal home ++ []
cause_text (causes.OtherChain connected listening anywhere) = chains_text connected listening anywhere
cause_text (causes.OtherLength links) = codes "a walk is given up after " ++ decimal links ++ codes " links, one more than there are slots"
cause_text (causes.Uncounted changes vain clock) = count_text changes vain clock
cause_text cause = plain_text cause

-- a line's number and its text
unfoldable pub numbered : ℕ → List ℕ → List ℕ
numbered n line = codes "line " ++ decimal n ++ codes ": " ++ line ++ codes "\n"

-- `texts`: the texts of a record's lines; `all`: the lines
module _ (texts : List (List ℕ)) (all : List Line) (cause : Cause) where
  abbrev pub part : ℕ → Line → List ℕ
  part at line = if has_part all cause line then numbered (at + 1) (text_at texts at) else []

  -- the lines that have a part, of those from that number on
  abbrev pub parts_from : ℕ → List Line → List ℕ
  parts_from at [] = []
  parts_from at (line ∷ rest) = part at line ++ parts_from (at + 1) rest

-- what keeps line n from passing, with the lines above it that have a part in it
abbrev pub told : List (List ℕ) → List Line → ℕ → Option Cause → List ℕ
told texts all n None = []
told texts all n (Some cause) = cause_text cause ++ codes "\n" ++ parts_from texts all cause 0 (take (n - 1) all)

-- the line of the verdict, and the test
unfoldable pub verdict_line : ℕ → Why → List ℕ → List ℕ
verdict_line n why line = codes "no line " ++ decimal n ++ codes " " ++ (why_word why ++ codes ": " ++ line)

unfoldable pub test_line : Why → List ℕ
test_line why = codes "\nasked: " ++ test_text why ++ codes "\n"

-- the line of the verdict, what its test asks, what keeps it from passing, and the lines that have a part in that
abbrev pub refuted_text : List (List ℕ) → Printed → List Line → ℕ → Why → List ℕ
refuted_text texts p all n why =
    verdict_line n why (text_at texts (n - 1)) ++ test_line why ++ told texts all n (cause_at p all why n)
