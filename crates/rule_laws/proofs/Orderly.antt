-- What the forms of a script's lines say of its sections.
use Rattle.std.proofs.Common.{ℕ, ◌+◌, ◌≤◌, List, [], ◌∷◌, ◌++◌, length, map, filter, arith, subst}
use Rattle.list_words.specs.Lists.{Each}
use Rattle.list_words.proofs.EachLemmas.{each_filter, each_back}
use Rattle.flat_list.specs.declared.command.Command.{Command}
use Rattle.sock_script.specs.declared.line.Line.{Line}
use Rattle.sock_script.specs.declared.line.Line.TheVariants as lines
use Rattle.sock_script.specs.Words.{words_of}
use Rattle.sock_script.specs.Forms.{CommandFits, HasForm}
use Rattle.sock_script.specs.Grammar.{HaveForms, is_said, section_lines}
use Rattle.rule_laws.specs.Scripts.{ScriptsAreOrderly}

-- some words are the line
abbrev IsSpelled : Line → Type 0
IsSpelled line = (words : List (List ℕ)) × HasForm words line

each_spelled : (texts : List (List ℕ)) (read : List Line) → HaveForms texts read → Each IsSpelled read
each_spelled [] [] h = tt
each_spelled [] (line ∷ rest) h = absurd h
each_spelled (text ∷ texts) [] h = absurd h
each_spelled (text ∷ texts) (line ∷ rest) h = ((words_of text, h.0), each_spelled texts rest h.1)

commands_fit : (section : List Command) (more : List Line) → Each IsSpelled (map (λ (c : Command). lines.Command c) section ++ more) → Each CommandFits section
commands_fit [] more e = tt
commands_fit (c ∷ section) more e = (e.0.1.1, commands_fit section more e.1)

-- a section's number is 64 at most, so no more follow it
few_from : (n : ℕ) (sections : List (List Command)) → n ≤ 64 → Each IsSpelled (section_lines (n + 1) sections) → length sections + n ≤ 64
few_from n [] le e = omega (arith, le)
few_from n (section ∷ rest) le e =
    let number : n + 1 ≤ 64 = e.0.1.2 in
    let left = each_back IsSpelled (map (λ (c : Command). lines.Command c) section) (section_lines (n + 1 + 1) rest) e.1 in
    omega (arith, few_from (n + 1) rest number left)

sections_fit : (n : ℕ) (sections : List (List Command)) → Each IsSpelled (section_lines n sections) → Each (Each CommandFits) sections
sections_fit n [] e = tt
sections_fit n (section ∷ rest) e = (
  commands_fit section (section_lines (n + 1) rest) e.1,
  sections_fit (n + 1) rest (each_back IsSpelled (map (λ (c : Command). lines.Command c) section) (section_lines (n + 1) rest) e.1),
)

pub scripts_are_orderly : ScriptsAreOrderly
scripts_are_orderly mode text script h =
    let all : Each IsSpelled (filter is_said h.read) = each_filter IsSpelled is_said h.read (each_spelled h.front h.read h.forms) in
    let spelled : Each IsSpelled (section_lines 1 script.sections) = each_back IsSpelled h.head (section_lines 1 script.sections) (subst (Each IsSpelled) h.order all) in
    let few : length script.sections + 0 ≤ 64 = few_from 0 script.sections (omega arith) spelled in
    record { few = omega (arith, few); sections = h.sections; fits = sections_fit 1 script.sections spelled }
