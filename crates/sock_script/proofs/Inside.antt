-- Lines are in the grammar as they are read.
use Rattle.std.proofs.Common.{ℕ, List, ◌∙◌, ap, sym, refl}
use Rattle.sock_script.specs.declared.parse.Mode.{Mode}
use Rattle.sock_script.specs.Words.{lines_of}
use Rattle.sock_script.specs.Grammar.{IsInside, IsOneScript}
use Rattle.sock_script.specs.Reading.{Draft, Reads, nothing_yet, script_of}
use Rattle.sock_script.proofs.Scripts.{one_reading}
use Rattle.sock_script.proofs.Printed.{are_lines}
use Rattle.sock_script.proofs.Reprinted.{read_as}

module _ (mode : Mode) (texts : List (List ℕ)) where
  pub read_inside : IsInside mode texts → (draft : Draft) × Reads mode nothing_yet texts draft
  read_inside inside = let r = read_as mode texts inside.0 inside.1 in (r.0, r.1)

  pub inside_by : (draft : Draft) → Reads mode nothing_yet texts draft → IsInside mode texts
  inside_by draft h = (script_of draft, are_lines mode texts (script_of draft) (draft, h, refl))

-- a text is one script at most
pub one_script : IsOneScript
one_script mode text a b h k =
    let x = read_as mode (lines_of text) a h in
    let y = read_as mode (lines_of text) b k in
    x.2 ∙ ap script_of (one_reading mode nothing_yet (lines_of text) x.0 y.0 x.1 y.1) ∙ sym y.2
