-- What follows from the tests of a printed race. Our own.
use Rattle.std.specs.Prelude.{◌≡◌}
use Rattle.race_book.specs.Among.{Among}
use Rattle.race_book.specs.Listed.{StampsDiffer}
use Rattle.race_book.specs.Serial.{IsSerial}
use Rattle.book_audit.specs.declared.printed.Printed.{Printed}
use Rattle.book_audit.specs.declared.printed.Finding.{Finding}
use Rattle.book_audit.specs.declared.printed.Finding.TheVariants as findings
use Rattle.book_audit.specs.Book.{book_of}
use Rattle.book_audit.specs.Findings.{IsFinding}

-- the changes of the lives of a sound race are serial
abbrev pub SoundIsSerial : Type 0
SoundIsSerial =
    (p : Printed) → IsFinding p findings.Sound → IsSerial (Among (book_of p.lives.items)) p.shape p.seed

-- and no number of the clock stands twice among them
abbrev pub SoundStampsDiffer : Type 0
SoundStampsDiffer = (p : Printed) → IsFinding p findings.Sound → StampsDiffer (book_of p.lives.items)

-- of each race there is one finding at most
abbrev pub OneFinding : Type 0
OneFinding = (p : Printed) (f g : Finding) → IsFinding p f → IsFinding p g → f ≡ g

-- and there is one
abbrev pub SomeFinding : Type 0
SomeFinding = (p : Printed) → (f : Finding) × IsFinding p f
