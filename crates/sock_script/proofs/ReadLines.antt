-- What the code learns of a line's words, as the grammar says it.
use Rattle.std.proofs.Common.{◌≡◌, ℕ, ◌<◌, ◌∙◌, inl, inr, List, [], ◌∷◌, length, arith, sym, subst, Bool, true, false, None, Result, Ok, Err, IfOk}
use Rattle.sock_script.specs.declared.parse.Mode.{Mode}
use Rattle.flat_list.specs.declared.command.Command.{Command}
use Rattle.sock_script.specs.declared.line.Line.{Line}
use Rattle.sock_script.specs.declared.line.Line.TheVariants as lines
use Rattle.sock_script.specs.Words.{words_of}
use Rattle.sock_script.specs.Forms.{HasForm, IsPassedOver}
use Rattle.sock_script.specs.Pieces.{HasWords}
use Rattle.sock_script.specs.Seen.{texts}
use Rattle.std.specs.Borrow.{Bor}
use Rattle.sock_script.specs.Reading.{Draft, Follows, past}
use Rattle.sock_script.specs.Steps.{Adds, IsCommand, LineAnswer, OtherAnswer}
use Rattle.sock_script.proofs.Determined.{one_form}
use Rattle.sock_script.proofs.LineCases.{reads, is_read}

module _ (mode : Mode) (old mid new : Draft) (text : List ℕ) (words : List (List ℕ)) (line : Line) (none : old.capture ≡ None) (passed : mid ≡ past old text) (is : words ≡ words_of text) (form : HasForm words line) where
  has_form : HasForm (words_of text) line
  has_form = subst (λ w. HasForm w line) is form

  -- a line has no other form
  answer_of : (b : Bool) → Adds mode (past old text) line new b → LineAnswer mode old text new b
  answer_of true h = reads mode old text new none line has_form h
  answer_of false h = λ next k.
      let r = is_read mode old text next none k in
      h next (subst (λ l. Follows mode (past old text) l next) (one_form (words_of text) r.0 line r.1 has_form) r.2)

  pub answers : {E : Type 0} (r : Result Bool E) → IfOk r (Adds mode mid line new) → IfOk r (LineAnswer mode old text new)
  answers (Ok b) h = answer_of b (subst (λ d. Adds mode d line new b) passed h)
  answers (Err e) h = tt

-- words that are no command, and no line of another kind, are no line
formless : (words : List (List ℕ)) → ((command : Command) → HasForm words (lines.Command command) → ⊥) → ((line : Line) → HasForm words line → IsCommand line) → (line : Line) → HasForm words line → ⊥
formless words no_command no_other (lines.Command command) form = no_command command form
formless words no_command no_other line form = no_other line form

-- where no line follows, none is read
unread : (mode : Mode) (old new : Draft) (text : List ℕ) → old.capture ≡ None → ((line : Line) → HasForm (words_of text) line → ⊥) → (b : Bool) → b ≡ false → LineAnswer mode old text new b
unread mode old new text none no_form true is = absurd (cc)
unread mode old new text none no_form false is = λ next k. let r = is_read mode old text next none k in no_form r.0 r.1

-- what reading the words of a line that is no command answers is what reading the line does
pub others : {E : Type 0} (mode : Mode) (old mid new : Draft) (text : List ℕ) (words : List (List ℕ)) → old.capture ≡ None → mid ≡ past old text → words ≡ words_of text
    → ((command : Command) → HasForm words (lines.Command command) → ⊥) → (r : Result Bool E) → IfOk r (OtherAnswer mode mid words new) → IfOk r (LineAnswer mode old text new)
others {E = E} mode old mid new text words none passed is no_command (Ok b) (inl h) =
    let read : Result Bool E = Ok b in answers mode old mid new text words h.0 none passed is h.1 read h.2
others mode old mid new text words none passed is no_command (Ok b) (inr h) =
    unread mode old new text none (subst (λ w. (line : Line) → HasForm w line → ⊥) is (formless words no_command h.1)) b h.0
others mode old mid new text words none passed is no_command (Err e) h = tt

-- a line whose words are none is passed over
pub none_seen : (line : List ℕ) (words : List (List ℕ)) → HasWords line words → words ≡ [] → IsPassedOver (words_of line)
none_seen line words (inl same) none = subst IsPassedOver (sym none ∙ same) tt
none_seen line words (inr passed) none = passed.1

-- and words that are some are the line's
pub some_seen : (line : List ℕ) (words : List (Bor (List ℕ))) → HasWords line (texts words) → 0 < length words → texts words ≡ words_of line
some_seen line [] seen some = absurd (omega arith)
some_seen line (word ∷ words) (inl same) some = same
some_seen line (word ∷ words) (inr passed) some = let none : word.now ∷ texts words ≡ [] = passed.0 in absurd (cc)
