-- A command is the one that its first word names.
use Rattle.std.proofs.Common.{◌≡◌, ℕ, ◌+◌, ◌*◌, List, [], ◌∷◌, false, codes, ap, refl, eqb}
use Rattle.std.proofs.lemmas.Bool.{both_ways, eq-eqb}
use Rattle.flat_list.specs.declared.command.End.{End}
use Rattle.flat_list.specs.declared.command.Query.{Query}
use Rattle.flat_list.specs.declared.owned.Options.{Options}
use Rattle.flat_list.specs.declared.command.Command.{Command}
use Rattle.flat_list.specs.declared.command.Command.TheVariants as commands
use Rattle.sock_script.specs.declared.line.Line.TheVariants as lines
use Rattle.sock_script.specs.Forms.{HasForm, command_words}

-- a word as one number
abbrev pub word_code : ℕ → List ℕ → ℕ
word_code n [] = n
word_code n (b ∷ bs) = word_code (n * 256 + b) bs

-- the first word as one number
abbrev pub verb_code : List (List ℕ) → ℕ
verb_code [] = 0
verb_code (w ∷ ws) = word_code 0 w

-- two numbers that are equal and not equal
pub never : (m n : ℕ) → m ≡ n → eqb m n ≡ false → ⊥
never m n e f = both_ways (eqb m n) f (eq-eqb m n e)

-- the words behind that verb are that command's
abbrev pub IsAfter : List ℕ → List (List ℕ) → Command → Type 0
IsAfter verb ws c = HasForm (verb ∷ ws) (lines.Command c)

-- a command whose first word is `socket` is a Socket; so for each verb
pub socket_after : (ws : List (List ℕ)) (c : Command) → IsAfter (codes "socket") ws c
    → (label : List ℕ) × (options : Options) × IsAfter (codes "socket") ws (commands.Socket label options)
socket_after ws (commands.Socket label options) h = (label, options, h)
socket_after ws c h = absurd (never (verb_code (codes "socket" ∷ ws)) (verb_code (command_words c)) (ap verb_code h.0) refl)

pub bind_after : (ws : List (List ℕ)) (c : Command) → IsAfter (codes "bind") ws c
    → (label : List ℕ) × (end : End) × IsAfter (codes "bind") ws (commands.Bind label end)
bind_after ws (commands.Bind label end) h = (label, end, h)
bind_after ws c h = absurd (never (verb_code (codes "bind" ∷ ws)) (verb_code (command_words c)) (ap verb_code h.0) refl)

pub look_after : (ws : List (List ℕ)) (c : Command) → IsAfter (codes "look") ws c
    → (query : Query) × IsAfter (codes "look") ws (commands.Look query)
look_after ws (commands.Look query) h = (query, h)
look_after ws c h = absurd (never (verb_code (codes "look" ∷ ws)) (verb_code (command_words c)) (ap verb_code h.0) refl)
