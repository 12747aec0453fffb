-- What reading a line is: it has a form and may follow, or a capture has begun.
use Rattle.std.proofs.Common.{◌≡◌, ℕ, ◌⊎◌, inl, inr, List, Option, Some, None, MatchOption, refl, sym, subst}
use Rattle.flat_list.specs.declared.script.CapturePlace.{CapturePlace}
use Rattle.sock_script.specs.declared.parse.Mode.{Mode}
use Rattle.sock_script.specs.declared.line.Line.{Line}
use Rattle.sock_script.specs.Words.{words_of}
use Rattle.sock_script.specs.Forms.{HasForm}
use Rattle.sock_script.specs.Reading.{Draft, Follows, ReadsLine, past}

-- the line that a text is, and what it makes of a draft that has no capture
pub record IsRead (mode : Mode) (old : Draft) (text : List ℕ) (new : Draft) : Type 0 where
  pub none : old.capture ≡ None
  pub line : Line
  pub form : HasForm (words_of text) line
  pub follows : Follows mode (past old text) line new

-- the capture has begun, and the draft stays
abbrev pub IsKept : Draft → Draft → Type 0
IsKept old new = (place : CapturePlace) × (old.capture ≡ Some place) × (new ≡ old)

module _ (mode : Mode) (old : Draft) (text : List ℕ) (new : Draft) where
  cases_of : (capture : Option CapturePlace) → old.capture ≡ capture
      → MatchOption capture ((line : Line) × HasForm (words_of text) line × Follows mode (past old text) line new) (λ place. new ≡ old)
      → IsRead mode old text new ⊎ IsKept old new
  cases_of None e h = inl (record { none = e; line = h.0; form = h.1; follows = h.2 })
  cases_of (Some place) e h = inr (place, e, h)

  -- one of the two is so
  pub line_cases : ReadsLine mode old text new → IsRead mode old text new ⊎ IsKept old new
  line_cases h = cases_of old.capture refl h

  -- a line is read where no capture has begun
  pub reads : old.capture ≡ None → (line : Line) → HasForm (words_of text) line → Follows mode (past old text) line new → ReadsLine mode old text new
  reads none line form follows =
      subst (λ c. MatchOption c ((l : Line) × HasForm (words_of text) l × Follows mode (past old text) l new) (λ place. new ≡ old)) (sym none) (line, form, follows)

  -- and nothing else is
  pub is_read : old.capture ≡ None → ReadsLine mode old text new → (line : Line) × HasForm (words_of text) line × Follows mode (past old text) line new
  is_read none h =
      subst (λ c. MatchOption c ((l : Line) × HasForm (words_of text) l × Follows mode (past old text) l new) (λ place. new ≡ old)) none h

-- once a capture has begun, every line leaves the draft
pub keeps : (mode : Mode) (old : Draft) (text : List ℕ) (place : CapturePlace) → old.capture ≡ Some place → ReadsLine mode old text old
keeps mode old text place e =
    subst (λ c. MatchOption c ((l : Line) × HasForm (words_of text) l × Follows mode (past old text) l old) (λ p. old ≡ old)) (sym e) refl
