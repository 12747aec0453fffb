-- The words of a command line, the program's name first. What clap makes of them is its own relation: which words it
-- refuses is `fault_of`, and the subcommand that it meets, with its values, is `subcommand_of`. The forms are our own
-- rule.
--
-- In three parts: what the program declares, up to `inet_app`; what words ask for, from `IsTaken` to `Asks`; and six
-- laws, from `RunAsks` on. `NamesPlain` is of a private function.
use Rattle.std.specs.Prelude.{◌≡◌, ◌<◌, ◌≤◌, ◌^◌, ℕ, List, [], ◌∷◌, Option, Some, true, pos, codes, decimal, option_map, option_and_then}
use Rattle.std.specs.Str.Parse.{digits_value, without_leading_plus}
use Rattle.clap.specs.Words.{App, Rule, Text, fault_of, new_app, new_rule, one_of, subcommand_of, with_rule, with_subcommand}
use Rattle.clap.specs.Simple.{on_top}
use Rattle.clap.specs.declared.builder.action.ArgAction.TheVariants.{Set}
use Rattle.clap.specs.declared.builder.value_parser.ValueParser.{ValueParser}
use Rattle.clap.specs.declared.builder.value_parser.ValueParser.TheVariants.{Signed}
use Rattle.inet_tool.specs.declared.words.Ask.{Ask}
use Rattle.inet_tool.specs.declared.words.Ask.TheVariants.{Run, Make, Race, Audit}
use Rattle.sock_script.specs.declared.parse.Mode.{Mode}
use Rattle.sock_script.specs.declared.parse.Mode.TheVariants as modes

-- a required positional that takes one value
abbrev pub number_rule : Text → ValueParser → Rule
number_rule id parser = record (new_rule id) { required = true; action = Some Set; parser = Some parser }

-- `run`
abbrev pub run_app : App
run_app = new_app (codes "run")

-- `make SEED COUNT`
abbrev pub make_app : App
make_app = with_rule
    (with_rule (new_app (codes "make")) (number_rule (codes "SEED") (Signed (pos 0) (pos 4294967295))))
    (number_rule (codes "COUNT") (Signed (pos 0) (pos 100000)))

-- a required option that takes one value, by the long name that its id is
abbrev pub option_rule : Text → ValueParser → Rule
option_rule id parser = record (number_rule id parser) { long = Some id }

-- `race --lookers N --passes P`
abbrev pub race_app : App
race_app = with_rule
    (with_rule (new_app (codes "race")) (option_rule (codes "lookers") (Signed (pos 1) (pos 16))))
    (option_rule (codes "passes") (Signed (pos 1) (pos 64)))

-- `audit`
abbrev pub audit_app : App
audit_app = new_app (codes "audit")

-- The program: one of the four is required, and nothing else is declared, `help` neither.
abbrev pub top_app : App
top_app = on_top (λ s. record s {
  subcommand_required = true;
  disable_help_flag = true;
  disable_help_subcommand = true;
}) (new_app (codes "inet"))

-- with the three that are for scripts
abbrev pub scripts_app : App
scripts_app = with_subcommand (with_subcommand (with_subcommand top_app run_app.top) make_app.top) race_app.top

abbrev pub inet_app : App
inet_app = with_subcommand scripts_app audit_app.top

-- clap takes the words
abbrev pub IsTaken : List Text → Type 0
IsTaken words = fault_of inet_app words ≡ []

-- clap refuses the words, whatever memory there is
abbrev pub IsRefused : List Text → Type 0
IsRefused words = ¬ (IsTaken words)

-- the name of the subcommand that the words name
abbrev pub name_of : List Text → Option Text
name_of words = option_map (λ met. met.0) (subcommand_of inet_app words)

-- The number that clap reads for one of the subcommand's arguments. It takes `+7` and `007` too, which are 7.
abbrev pub number_of : Text → List Text → Option ℕ
number_of id words = option_map (λ text. digits_value 10 (without_leading_plus text))
    (option_and_then (λ met. one_of id met.1) (subcommand_of inet_app words))

-- the words ask to run a script
abbrev pub IsRun : List Text → Type 0
IsRun words = IsTaken words × (name_of words ≡ Some (codes "run"))

-- the words ask to make so many commands from the seed
abbrev pub IsMake : List Text → ℕ → ℕ → Type 0
IsMake words seed count = IsTaken words × (name_of words ≡ Some (codes "make"))
    × (number_of (codes "SEED") words ≡ Some seed) × (number_of (codes "COUNT") words ≡ Some count)

-- the words ask to race a script, with so many lookers and so many passes a lookup
abbrev pub IsRace : List Text → ℕ → ℕ → Type 0
IsRace words lookers passes = IsTaken words × (name_of words ≡ Some (codes "race"))
    × (number_of (codes "lookers") words ≡ Some lookers) × (number_of (codes "passes") words ≡ Some passes)

-- the words ask to audit the record of a race
abbrev pub IsAudit : List Text → Type 0
IsAudit words = IsTaken words × (name_of words ≡ Some (codes "audit"))

-- the words ask to read a script, which is read for that
abbrev pub AsksToRead : Mode → List Text → Type 0
AsksToRead modes.Run words = IsRun words
AsksToRead modes.Race words = (lookers passes : ℕ) × IsRace words lookers passes

-- the words ask for it
abbrev pub Asks : List Text → Ask → Type 0
Asks words Run = IsRun words
Asks words (Make seed count) = IsMake words seed count
Asks words (Race lookers passes) = IsRace words lookers passes
Asks words Audit = IsAudit words

-- what is asked for by a subcommand of that name, if it isn't `make` or `race`
abbrev pub NamesPlain : Option Text → Ask → Type 0
NamesPlain name Run = ¬ (name ≡ Some (codes "audit"))
NamesPlain name (Make seed count) = ⊥
NamesPlain name (Race lookers passes) = ⊥
NamesPlain name Audit = name ≡ Some (codes "audit")

-- `run` is taken, and asks to run a script
abbrev pub RunAsks : Type 0
RunAsks = (name : Text) → IsRun (name ∷ codes "run" ∷ [])

-- `audit` is taken, and asks to audit a record
abbrev pub AuditAsks : Type 0
AuditAsks = (name : Text) → IsAudit (name ∷ codes "audit" ∷ [])

-- `make` with a seed and a count in range is taken, and asks to make from these
abbrev pub MakeAsks : Type 0
MakeAsks = (name : Text) (seed count : ℕ) → seed < 2 ^ 32 → count ≤ 100000
    → IsMake (name ∷ codes "make" ∷ decimal seed ∷ decimal count ∷ []) seed count

-- `race` with both options in range, in either order, is taken, and asks to race with these
abbrev pub RaceAsks : Type 0
RaceAsks = (name : Text) (lookers passes : ℕ) → 1 ≤ lookers → lookers ≤ 16 → 1 ≤ passes → passes ≤ 64
    → IsRace (name ∷ codes "race" ∷ codes "--lookers" ∷ decimal lookers ∷ codes "--passes" ∷ decimal passes
    ∷ []) lookers passes
    × IsRace (name ∷ codes "race" ∷ codes "--passes" ∷ decimal passes ∷ codes "--lookers" ∷ decimal lookers
    ∷ []) lookers passes

-- the numbers that words ask for are in range
abbrev pub MakesInRange : Type 0
MakesInRange =
    (words : List Text) (seed count : ℕ) → IsMake words seed count → (seed < 2 ^ 32) × (count ≤ 100000)

-- so are those of a race
abbrev pub RacesInRange : Type 0
RacesInRange =
    (words : List Text) (lookers passes : ℕ) → IsRace words lookers passes
    → (1 ≤ lookers) × (lookers ≤ 16) × (1 ≤ passes) × (passes ≤ 64)
