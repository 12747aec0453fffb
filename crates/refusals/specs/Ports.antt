-- What is wrong with ports behind `range` and `reserved`: our own.
use Rattle.std.specs.Prelude.{◌≡◌, ℕ, ◌+◌, ◌-◌, ◌%◌, ◌<◌, ◌≤◌, List, [], ◌∷◌, length, decimal, get_or}
use Rattle.line_forms.specs.declared.verb.Verb.{Verb}
use Rattle.line_forms.specs.declared.verb.Verb.TheVariants as verbs
use Rattle.line_forms.specs.Kinds.{IsOf, a_port}
use Rattle.sock_script.specs.declared.line.Line.{Line}
use Rattle.sock_script.specs.Forms.{HasForm}
use Rattle.refusals.specs.declared.ports.PortsFault.{PortsFault}
use Rattle.refusals.specs.declared.ports.PortsFault.TheVariants as faults

-- the words have a form of the grammar
abbrev pub IsForm : List (List ℕ) → Type 0
IsForm words = (line : Line) × HasForm words line

-- the word at that place of the line is the first that is no port; the words are those behind its first, so their places
-- count from 2
pub record IsNoPort (words : List (List ℕ)) (place : ℕ) : Type 0 where
  pub least : 2 ≤ place
  pub within : place < length words + 2
  pub before : (k : ℕ) → k < place - 2 → IsOf a_port (get_or words k [])
  pub none : ¬ (IsOf a_port (get_or words (place - 2) []))

-- each word is a port
abbrev pub ArePorts : List (List ℕ) → Type 0
ArePorts words = (k : ℕ) → k < length words → IsOf a_port (get_or words k [])

-- the words are two ports
abbrev pub AreTwo : List (List ℕ) → ℕ → ℕ → Type 0
AreTwo words low high = words ≡ decimal low ∷ decimal high ∷ []

-- what each fault states of the words behind the verb
abbrev pub IsPortsFault : Verb → List (List ℕ) → PortsFault → Type 0
IsPortsFault verbs.Range words faults.NotAbove = (low high : ℕ) × AreTwo words low high × (high ≤ low)
IsPortsFault verbs.Range words faults.NotOdd =
    (low high : ℕ) × AreTwo words low high × (low < high) × ¬ ((high - low) % 2 ≡ 1)
IsPortsFault verbs.Reserved words faults.Missing = words ≡ []
IsPortsFault verbs.Reserved words faults.Many = 64 < length words
IsPortsFault verbs.Reserved words (faults.NotPort place) = IsNoPort words place
IsPortsFault verbs.Reserved words faults.NotAscending =
    (1 ≤ length words) × (length words ≤ 64) × ArePorts words
IsPortsFault _ words _ = ⊥
