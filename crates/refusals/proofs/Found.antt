-- Whether words have a form, from what reading them as a command and as another line gives.
use Rattle.std.proofs.Common.{◌≡◌, List, ℕ, Option, Some, None, ◌||◌, is_some, IsTrue, IfSome, IfNone, ◌↔◌, ◌∷◌, refl}
use Rattle.std.proofs.lemmas.Bool.{false≢true}
use Rattle.flat_list.specs.declared.command.Command.{Command}
use Rattle.sock_script.specs.declared.line.Line.{Line}
use Rattle.sock_script.specs.declared.line.Line.TheVariants as lines
use Rattle.sock_script.specs.Forms.{HasForm}
use Rattle.sock_script.specs.Steps.{IsCommand}
use Rattle.line_forms.specs.declared.verb.Verb.{Verb}
use Rattle.line_forms.specs.Kinds.{verb_text}
use Rattle.refusals.specs.Ports.{IsForm}

module _ (words : List (List ℕ)) where
  -- neither a command nor another line
  neither : ((c : Command) → HasForm words (lines.Command c) → ⊥) → ((line : Line) → HasForm words line → IsCommand line)
      → IsForm words → ⊥
  neither not_command other (lines.Command c, h) = not_command c h
  neither not_command other (lines.PassedOver, h) = other lines.PassedOver h
  neither not_command other (lines.Table s, h) = other (lines.Table s) h
  neither not_command other (lines.Range r, h) = other (lines.Range r) h
  neither not_command other (lines.Reserved r, h) = other (lines.Reserved r) h
  neither not_command other (lines.Seed n, h) = other (lines.Seed n) h
  neither not_command other (lines.Offset n, h) = other (lines.Offset n) h
  neither not_command other (lines.TimeWaitReuse b, h) = other (lines.TimeWaitReuse b) h
  neither not_command other (lines.Section n, h) = other (lines.Section n) h
  neither not_command other (lines.Capture d n, h) = other (lines.Capture d n) h

  -- one of the two was read exactly where the words have a form
  pub found : (command : Option Command) (other : Option Line)
      → IfSome command (λ c. HasForm words (lines.Command c)) → IfNone command ((c : Command) → HasForm words (lines.Command c) → ⊥)
      → IfSome other (λ line. HasForm words line) → IfNone other ((line : Line) → HasForm words line → IsCommand line)
      → IsTrue (is_some command || is_some other) ↔ IsForm words
  found (Some c) o h n k m = (λ t. (lines.Command c, h), λ f. refl)
  found None (Some line) h n k m = (λ t. (line, k), λ f. refl)
  found None None h n k m = (λ t. absurd (false≢true t), λ f. absurd (neither n m f))

-- words don't begin with a verb whose spelling their first word hasn't
pub no_verb : (words : List (List ℕ)) (first : List ℕ) (rest : List (List ℕ)) → words ≡ first ∷ rest
    → ((verb : Verb) → first ≡ verb_text verb → ⊥) → (verb : Verb) (behind : List (List ℕ)) → words ≡ verb_text verb ∷ behind → ⊥
no_verb words first rest e none verb behind is = none verb cc
