-- The second line of a record gives the shape.
use Rattle.std.proofs.Common.{◌≡◌, ℕ, zero, suc, List, [], ◌∷◌, Some, None, slice_get, true, false, ◌&&◌, ◌==◌, Bool, refl, subst}
use Rattle.record_reader.specs.declared.line.Line.{Line}
use Rattle.record_reader.specs.declared.line.Line.TheVariants as lines
use Rattle.book_audit.specs.declared.printed.Printed.{Printed}
use Rattle.record_reader.specs.Words.{words_of}
use Rattle.chain_book.specs.Shapes.{ShapeFits}
use Rattle.record_reader.specs.Forms.{HasForm}
use Rattle.record_reader.specs.Record.{AreInOrder, HaveForms, IsRecord, may_follow}
use Rattle.record_reader.specs.Told.{Tells}
use Rattle.record_reader.specs.Steps.{EndsWell, TellsShape}

never_both : (b : Bool) → (b && false) ≡ true → ⊥
never_both true h = cc
never_both false h = cc

second : (m n : ℕ) (line : Line) (rest : List Line) → may_follow (Some (lines.Race m n)) line ≡ true → TellsShape (lines.Race m n ∷ line ∷ rest)
second m n (lines.Shape s k) rest h = (s, k, refl)
second m n (lines.Packet k i) rest h = absurd (never_both (k == 1) h)
second m n line rest h = absurd (cc)

pub tells_shape : (all : List Line) → AreInOrder None all → EndsWell all → TellsShape all
tells_shape [] o e = let no : None ≡ Some (lines.Clock e.0) = e.1 in absurd (cc)
tells_shape (lines.Race m n ∷ []) o e = let no : Some (lines.Race m n) ≡ Some (lines.Clock e.0) = e.1 in absurd (cc)
tells_shape (lines.Race m n ∷ line ∷ rest) o e = second m n line rest o.1.0
tells_shape (first ∷ rest) o e = let no : false ≡ true = o.0 in absurd (cc)

-- each line of texts that have forms has one
form_at : (i : ℕ) (texts : List (List ℕ)) (all : List Line) (line : Line) → HaveForms texts all → slice_get all i ≡ Some line → (text : List ℕ) × HasForm (words_of text) line
form_at i [] [] line f e = absurd (cc)
form_at i [] (l ∷ ls) line f e = absurd f
form_at i (t ∷ ts) [] line f e = absurd f
form_at zero (t ∷ ts) (l ∷ ls) line f e = let same : l ≡ line = cc in (t, subst (HasForm (words_of t)) same f.0)
form_at (suc i) (t ∷ ts) (l ∷ ls) line f e = form_at i ts ls line f.1 e

-- so the shape that a record gives is in range
pub shape_fits : (text : List ℕ) (all : List Line) (p : Printed) → IsRecord text all → Tells all p → ShapeFits p.shape
shape_fits text all p is t = (form_at 1 _ all (lines.Shape p.shape p.seed) is.begins.forms t.shape).1.1.0
