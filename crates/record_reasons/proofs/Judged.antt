-- The line of a verdict is one of the record's.
use Rattle.std.proofs.Common.{◌≡◌, ℕ, ◌≤◌, List, length, ap, subst, arith}
use Rattle.book_audit.specs.declared.printed.Why.{Why}
use Rattle.record_reader.specs.declared.line.Line.{Line}
use Rattle.record_reader.specs.declared.audit.Verdict.TheVariants.{No}
use Rattle.record_reader.specs.Record.{IsRecord}
use Rattle.record_reader.specs.Verdicts.{IsVerdict}
use Rattle.record_reader.proofs.Reading.{one_record}

pub within : (text : List ℕ) (n : ℕ) (why : Why) (all : List Line) → IsVerdict text (No n why) → IsRecord text all
    → (1 ≤ n) × (n ≤ length all)
within text n why all v is =
    let same : length v.record_lines ≡ length all = ap (λ (ls : List Line). length ls) (one_record text v.record_lines all v.reads.is is) in
    (v.answers.2.within.0, omega (arith, v.answers.2.within.1, same))
