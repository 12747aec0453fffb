-- What the lines before a line say of it: our own.
--
-- To be read from the end: `before_of` is what Reasons cites, and each stands on those above it.
use Rattle.std.specs.Prelude.{ℕ, ◌+◌, ◌||◌, Bool, true, false, bytes_eq, List, [], ◌∷◌, Option, Some, None, if◌then◌else◌}
use Rattle.line_forms.specs.declared.verb.Verb.{Verb}
use Rattle.line_forms.specs.declared.verb.Verb.TheVariants as verbs
use Rattle.line_forms.specs.Kinds.{verb_text}
use Rattle.sock_script.specs.Words.{words_of}
use Rattle.refusals.specs.declared.before.Before.{Before}

-- the first of a line's words is that verb
abbrev pub begins : Verb → List (List ℕ) → Bool
begins verb [] = false
begins verb (word ∷ words) = bytes_eq word (verb_text verb)

-- the second word, and the third; there is nothing in one that is missing
abbrev pub second : List (List ℕ) → List ℕ
second (a ∷ word ∷ words) = word
second _ = []

abbrev pub third : List (List ℕ) → List ℕ
third (a ∷ b ∷ word ∷ words) = word
third _ = []

-- the label that a line gives to a new socket; nothing, where it gives none
abbrev pub given : List (List ℕ) → List ℕ
given words =
    if begins verbs.Socket words then second words
    else if begins verbs.Accept words || begins verbs.Syn words || begins verbs.Ack words then third words
    else []

-- the first line that is so, where another one comes, which is so or not
abbrev pub first_so : Option ℕ → Bool → ℕ → Option ℕ
first_so (Some line) so number = Some line
first_so None true number = Some number
first_so None false number = None

-- nothing is said before the first line
abbrev pub nothing_before : Before
nothing_before = record { section = None; alike = None; giver = None }

-- What is said of a line that begins with that verb and gives that label, where one more stands before it, of that
-- number: which begins the section that is being read; which is the first that begins with the same verb; and which is
-- the first of that section that gives the same label.
unfoldable pub noted : Verb → List ℕ → ℕ → List (List ℕ) → Before → Before
noted verb label number words before = record {
  section = if begins verbs.Script words then Some number else before.section;
  alike = first_so before.alike (begins verb words) number;
  giver = if begins verbs.Script words then None else first_so before.giver (bytes_eq (given words) label) number;
}

-- the same of lines from that number on
abbrev pub before_from : Verb → List ℕ → ℕ → Before → List (List ℕ) → Before
before_from verb label number before [] = before
before_from verb label number before (line ∷ lines) =
    before_from verb label (number + 1) (noted verb label number (words_of line) before) lines

-- and of all lines that stand before it, which are counted from 1
abbrev pub before_of : Verb → List ℕ → List (List ℕ) → Before
before_of verb label lines = before_from verb label 1 nothing_before lines
