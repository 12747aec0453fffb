-- The scripts of which there can be a race: our own limits.
use Rattle.std.specs.Prelude.{◌≡◌, ℕ, false, List}
use Rattle.list_words.specs.Lists.{Each}
use Rattle.flat_list.specs.Script.{Script, IsSmall}
use Rattle.flat_list.specs.declared.command.Command.{Command}
use Rattle.sock_script.specs.declared.parse.Mode.TheVariants as modes
use Rattle.flat_list.specs.Fits.{FitsTables}
use Rattle.sock_script.specs.Grammar.{IsScript}
use Rattle.table_model.specs.Means.{is_lookup}

-- none of the commands looks anything up
abbrev pub LooksNothingUp : List Command → Type 0
LooksNothingUp commands = Each (λ (c : Command). is_lookup c ≡ false) commands

pub record IsForRace (script : Script) : Type 0 where
  pub header : FitsTables script.header
  pub small : IsSmall script
  pub looks : Each LooksNothingUp script.sections

-- so is each small script that a text is by the grammar of a race
abbrev pub ScriptsAreForRace : Type 0
ScriptsAreForRace =
    (text : List ℕ) (script : Script) → IsScript modes.Race text script → IsSmall script → IsForRace script
