-- What holds of each script that a text is, said of the script alone: our own laws.
use Rattle.std.specs.Prelude.{◌≤◌, ℕ, List, length}
use Rattle.list_words.specs.Lists.{Each}
use Rattle.flat_list.specs.Script.{Script}
use Rattle.sock_script.specs.declared.parse.Mode.{Mode}
use Rattle.sock_script.specs.Forms.{CommandFits}
use Rattle.sock_script.specs.Grammar.{IsScript, IsSection}

-- each script that a text is has 64 sections at most; each of them gives each label once and has commands that may be
-- asked for so, and what stands in the commands is in range
pub record IsOrderly (mode : Mode) (script : Script) : Type 0 where
  pub few : length script.sections ≤ 64
  pub sections : Each (IsSection mode) script.sections
  pub fits : Each (Each CommandFits) script.sections

abbrev pub ScriptsAreOrderly : Type 0
ScriptsAreOrderly = (mode : Mode) (text : List ℕ) (script : Script) → IsScript mode text script → IsOrderly mode script
