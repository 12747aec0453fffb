-- How the reader goes on: our own. Of public contracts that of `tell` alone cites this file, by `EndsWell`.
use Rattle.std.specs.Prelude.{◌≡◌, ℕ, ◌-◌, Bool, true, false, IsTrue, List, [], ◌∷◌, ◌++◌, length, slice_get, Option, Some}
use Rattle.chain_book.specs.declared.shape.Shape.{Shape}
use Rattle.record_reader.specs.declared.line.Line.{Line}
use Rattle.record_reader.specs.declared.line.Line.TheVariants as lines
use Rattle.record_reader.specs.Forms.{HasForm}
use Rattle.record_reader.specs.declared.read.ReadEnd.{ReadEnd}
use Rattle.record_reader.specs.declared.read.ReadEnd.TheVariants as ends
use Rattle.record_reader.specs.Record.{IsFirstOutside, may_follow}

-- the line before the one that comes
abbrev pub last_of : List Line → Option Line
last_of all = slice_get all (length all - 1)

-- the words are a line that may follow
abbrev pub MayCome : List Line → List (List ℕ) → Line → Type 0
MayCome old words line = HasForm words line × IsTrue (may_follow (last_of old) line)

-- what becomes of the lines where it is said whether the words may come
abbrev pub Turns : List Line → List (List ℕ) → List Line → Bool → Type 0
Turns old words new true = (line : Line) × MayCome old words line × (new ≡ old ++ line ∷ [])
Turns old words new false = (new ≡ old) × ((line : Line) → MayCome old words line → ⊥)

-- the last line is that of the clock
abbrev pub EndsWell : List Line → Type 0
EndsWell all = (clock : ℕ) × (last_of all ≡ Some (lines.Clock clock))

-- the second line is that of the shape
abbrev pub TellsShape : List Line → Type 0
TellsShape all = (shape : Shape) × (seed : ℕ) × (slice_get all 1 ≡ Some (lines.Shape shape seed))

-- why a text is no record
abbrev pub EndAnswer : List ℕ → ReadEnd → Type 0
EndAnswer text (ends.BadLine n) = IsFirstOutside text n
EndAnswer text ends.Memory = Unit {0}
