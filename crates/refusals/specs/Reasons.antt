-- Why a line is outside the grammar of scripts: our own.
--
-- To be read from the end: `IsAnswer` is what is answered of a text, and `HasReason` says what each reason states.
use Rattle.std.specs.Prelude.{◌≡◌, ◌⊎◌, ℕ, ◌-◌, ◌||◌, nat_lt, Bool, true, false, List, [], ◌∷◌, take, Option, Some, None, slice_get, if◌then◌else◌}
use Rattle.std.specs.List.{list_any}
use Rattle.line_forms.specs.declared.misfit.Misfit.{Misfit}
use Rattle.line_forms.specs.declared.verb.Verb.{Verb}
use Rattle.line_forms.specs.Kinds.{parts_of, verb_text}
use Rattle.line_forms.specs.Wants.{IsMisfit, wants}
use Rattle.sock_script.specs.declared.parse.Mode.{Mode}
use Rattle.sock_script.specs.Words.{lines_of, words_of}
use Rattle.sock_script.specs.Grammar.{IsFirstOutside, IsScript, capture_bytes}
use Rattle.flat_list.specs.Script.{Script}
use Rattle.capture_reader.specs.declared.flaw.HeadFlaw.{HeadFlaw}
use Rattle.capture_reader.specs.Flaws.{IsBadHead}
use Rattle.capture_reader.specs.Header.{HasHeader}
use Rattle.refusals.specs.declared.answer.Answer.{Answer}
use Rattle.refusals.specs.declared.answer.Answer.TheVariants as answers
use Rattle.refusals.specs.declared.reason.Reason.{Reason}
use Rattle.refusals.specs.declared.reason.Reason.TheVariants as reasons
use Rattle.refusals.specs.Before.{before_of, given}
use Rattle.refusals.specs.Options.{untimely}
use Rattle.refusals.specs.Places.{misplace_of}
use Rattle.refusals.specs.Ports.{IsForm, IsPortsFault}

-- they begin with that verb, and these words stand behind it
abbrev pub BeginsWith : Verb → List (List ℕ) → List (List ℕ) → Type 0
BeginsWith verb rest words = words ≡ verb_text verb ∷ rest

-- a byte that is no letter, digit or sign of ASCII
abbrev pub is_strange : ℕ → Bool
is_strange b = nat_lt b 33 || nat_lt 126 b

-- why no line begins with that word
abbrev pub no_verb : List ℕ → Reason
no_verb word = if list_any is_strange word then reasons.Strange else reasons.NoVerb

-- the words begin with no verb
abbrev pub BeginsWithNone : List (List ℕ) → Type 0
BeginsWithNone words = (verb : Verb) (rest : List (List ℕ)) → ¬ (BeginsWith verb rest words)

-- the first word has such a byte
abbrev pub is_strange_line : List (List ℕ) → Bool
is_strange_line [] = false
is_strange_line (word ∷ words) = list_any is_strange word

-- What each reason states of a line's words, and of the lines before: they begin with no verb, and with a word whose
-- bytes are those of one or aren't; those behind the verb leave its form, at a word that names none of its options or
-- one; they are no ports as `range` or `reserved` wants them; or they have a form, and can't stand behind those lines.
abbrev pub HasReason : Mode → List (List ℕ) → List (List ℕ) → Reason → Type 0
HasReason mode lines words reasons.NoVerb = BeginsWithNone words × (is_strange_line words ≡ false)
HasReason mode lines words reasons.Strange = BeginsWithNone words × (is_strange_line words ≡ true)
HasReason mode lines words (reasons.Misfit verb misfit) =
    (rest : List (List ℕ)) × BeginsWith verb rest words × IsMisfit (wants (parts_of verb) rest) rest misfit
    × (untimely verb rest misfit ≡ None) × ¬ (IsForm words)
HasReason mode lines words (reasons.Untimely verb place) =
    (rest : List (List ℕ)) × (misfit : Misfit) × BeginsWith verb rest words
    × IsMisfit (wants (parts_of verb) rest) rest misfit × (untimely verb rest misfit ≡ Some place) × ¬ (IsForm words)
HasReason mode lines words (reasons.Ports verb fault) =
    (rest : List (List ℕ)) × BeginsWith verb rest words × IsPortsFault verb rest fault × ¬ (IsForm words)
HasReason mode lines words (reasons.Place verb misplace) =
    ((rest : List (List ℕ)) × BeginsWith verb rest words) × IsForm words
    × (misplace ≡ misplace_of mode verb (before_of verb (given words) lines))

-- Line n is the first outside the grammar, has that text, and is refused for that reason.
pub record IsRefusedFor (mode : Mode) (text : List ℕ) (n : ℕ) (line : List ℕ) (reason : Reason) : Type 0 where
  pub first : IsFirstOutside mode (lines_of text) n
  pub there : slice_get (lines_of text) (n - 1) ≡ Some line
  pub because : HasReason mode (take (n - 1) (lines_of text)) (words_of line) reason

-- The text is a script whose capture has no bytes, or begins with a header or with a valid block.
abbrev pub IsSound : Mode → List ℕ → Type 0
IsSound mode text =
    (script : Script) × IsScript mode text script
    × ((capture_bytes script.capture text ≡ []) ⊎ HasHeader (capture_bytes script.capture text))

-- It is a script whose capture has bytes and begins with neither, and that is what is wrong with its first bytes.
abbrev pub HasBadCapture : Mode → List ℕ → HeadFlaw → Type 0
HasBadCapture mode text flaw =
    (script : Script) × IsScript mode text script × IsBadHead (capture_bytes script.capture text) flaw

-- what is answered of a text
abbrev pub IsAnswer : Mode → List ℕ → Answer → Type 0
IsAnswer mode text answers.Sound = IsSound mode text
IsAnswer mode text (answers.Refused r) = IsRefusedFor mode text r.number r.line.items r.reason
IsAnswer mode text (answers.BadCapture flaw) = HasBadCapture mode text flaw
