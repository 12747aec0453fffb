-- What is said of a record's text: our own.
use Rattle.std.specs.Prelude.{◌≡◌, ℕ, ◌-◌, ◌≤◌, Bool, true, false, IsTrue, List, length, take, count_by, slice_get, IsSomeAnd}
use Rattle.book_audit.specs.declared.printed.Printed.{Printed}
use Rattle.book_audit.specs.declared.printed.Why.{Why}
use Rattle.book_audit.specs.declared.printed.Why.TheVariants as whys
use Rattle.book_audit.specs.declared.printed.Finding.TheVariants as findings
use Rattle.book_audit.specs.Findings.{IsFinding}
use Rattle.record_reader.specs.declared.line.Line.{Line}
use Rattle.record_reader.specs.declared.line.Line.TheVariants as lines
use Rattle.record_reader.specs.declared.audit.Verdict.{Verdict}
use Rattle.record_reader.specs.declared.audit.Verdict.TheVariants as verdicts
use Rattle.record_reader.specs.Record.{IsRecord}
use Rattle.record_reader.specs.Told.{Tells}

-- the text is a record of these lines, and they describe this race
pub record Reads (text : List ℕ) (record_lines : List Line) (p : Printed) : Type 0 where
  pub is : IsRecord text record_lines
  pub told : Tells record_lines p

-- the lines that a test is of: the packets', the clock's, or the lives'
abbrev pub is_tried : Why → Line → Bool
is_tried whys.Receipt (lines.Packet number item) = true
is_tried whys.Receipt _ = false
is_tried whys.Count (lines.Clock clock) = true
is_tried whys.Count _ = false
is_tried _ (lines.Life l) = true
is_tried _ _ = false

-- line n, counted from 1, is that one of those lines, counted from 0
pub record IsLineOf (why : Why) (record_lines : List Line) (at n : ℕ) : Type 0 where
  pub within : (1 ≤ n) × (n ≤ length record_lines)
  pub is : IsSomeAnd (slice_get record_lines (n - 1)) (λ line. IsTrue (is_tried why line))
  pub before : count_by (is_tried why) (take (n - 1) record_lines) ≡ at

-- what is answered where the judge finds that of the race
abbrev pub Answers : List Line → Printed → Verdict → Type 0
Answers record_lines p (verdicts.Yes lives packets clock) =
    IsFinding p findings.Sound × (lives ≡ length p.lives.items) × (packets ≡ length p.packets.items)
    × (clock ≡ p.clock)
Answers record_lines p (verdicts.No line why) =
    (at : ℕ) × IsFinding p (findings.Wrong why at) × IsLineOf why record_lines at line

-- the verdict on a text: it is a record, and the judge finds that of the race that it describes
pub record IsVerdict (text : List ℕ) (verdict : Verdict) : Type 0 where
  pub record_lines : List Line
  pub printed : Printed
  pub reads : Reads text record_lines printed
  pub answers : Answers record_lines printed verdict
