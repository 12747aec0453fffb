-- A text has one outcome.
use Rattle.std.proofs.Common.{◌≡◌, ℕ, List, ap}
use Rattle.record_reader.proofs.OneAnswer.{excludes_records, one_first, one_verdict}
use Rattle.inet_tool.specs.declared.audit.Outcome.{Outcome}
use Rattle.inet_tool.specs.declared.audit.Outcome.TheVariants as outcomes
use Rattle.inet_tool.specs.Audit.{IsOutcome}

pub one_outcome : (bytes : List ℕ) (a b : Outcome) → IsOutcome bytes a → IsOutcome bytes b → a ≡ b
one_outcome bytes (outcomes.Judged v) (outcomes.Judged w) h k = ap outcomes.Judged (one_verdict bytes v w h k)
one_outcome bytes (outcomes.Judged v) (outcomes.BadLine n) h k = absurd (excludes_records bytes n h.record_lines k h.reads.is)
one_outcome bytes (outcomes.BadLine m) (outcomes.Judged w) h k = absurd (excludes_records bytes m k.record_lines h k.reads.is)
one_outcome bytes (outcomes.BadLine m) (outcomes.BadLine n) h k = ap outcomes.BadLine (one_first bytes m n h k)
