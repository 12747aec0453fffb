-- What the words of the command line ask for. Our own rule.
use Rattle.std.specs.Prelude.{◌≡◌, ℕ, List, [], ◌∷◌, codes}
use Rattle.sock_script.specs.declared.parse.Mode.TheVariants as modes
use Rattle.why.specs.declared.input.Input.{Input}
use Rattle.why.specs.declared.input.Input.TheVariants as inputs

-- the command of `inet` for which an input is meant
abbrev pub input_text : Input → List ℕ
input_text (inputs.Script modes.Run) = codes "run"
input_text (inputs.Script modes.Race) = codes "race"
input_text inputs.Record = codes "audit"

-- the words are the program's name, whatever it is, and that command
abbrev pub AsksFor : Input → List (List ℕ) → Type 0
AsksFor input words = (name : List ℕ) × (words ≡ name ∷ input_text input ∷ [])
