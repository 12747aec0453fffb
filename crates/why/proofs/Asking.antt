-- Words ask for one thing at most.
use Rattle.std.proofs.Common.{◌≡◌, ◌∙◌, ℕ, List, [], ◌∷◌, refl, sym}
use Rattle.sock_script.specs.declared.parse.Mode.TheVariants as modes
use Rattle.why.specs.declared.input.Input.{Input}
use Rattle.why.specs.declared.input.Input.TheVariants as inputs
use Rattle.why.specs.Asked.{AsksFor, input_text}

one_input : (a b : Input) → input_text a ≡ input_text b → a ≡ b
one_input (inputs.Script modes.Run) (inputs.Script modes.Run) e = refl
one_input (inputs.Script modes.Run) (inputs.Script modes.Race) e = absurd (cc)
one_input (inputs.Script modes.Run) inputs.Record e = absurd (cc)
one_input (inputs.Script modes.Race) (inputs.Script modes.Run) e = absurd (cc)
one_input (inputs.Script modes.Race) (inputs.Script modes.Race) e = refl
one_input (inputs.Script modes.Race) inputs.Record e = absurd (cc)
one_input inputs.Record (inputs.Script modes.Run) e = absurd (cc)
one_input inputs.Record (inputs.Script modes.Race) e = absurd (cc)
one_input inputs.Record inputs.Record e = refl

second : (a b c d : List ℕ) → a ∷ b ∷ [] ≡ c ∷ d ∷ [] → b ≡ d
second a b c d e = cc

pub asked_once : (words : List (List ℕ)) (a b : Input) → AsksFor a words → AsksFor b words → a ≡ b
asked_once words a b h k = one_input a b (second h.0 (input_text a) k.0 (input_text b) (sym h.1 ∙ k.1))
