-- That tables can be made of the header of each script: our own.
use Rattle.std.specs.Prelude.{List, ℕ}
use Rattle.flat_list.specs.Fits.{FitsTables}
use Rattle.flat_list.specs.Script.{Script}
use Rattle.sock_script.specs.declared.parse.Mode.{Mode}
use Rattle.sock_script.specs.Grammar.{IsScript}

-- tables can be made of the header of whatever script a text is
abbrev pub ScriptsFit : Type 0
ScriptsFit = (mode : Mode) (text : List ℕ) (script : Script) → IsScript mode text script → FitsTables script.header
