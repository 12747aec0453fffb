-- A text has one outcome.
use Rattle.std.proofs.Common.{◌≡◌, ℕ, List, ap}
use Rattle.record_reader.proofs.OneAnswer.{excludes_records, one_first, one_verdict}
use Rattle.picture.specs.declared.serve.Outcome.{Outcome}
use Rattle.picture.specs.declared.serve.Outcome.TheVariants as outcomes
use Rattle.picture.specs.Written.{IsOutcome}

pub one_outcome : (bytes s t : List ℕ) (a b : Outcome) → IsOutcome bytes a s → IsOutcome bytes b t → a ≡ b
one_outcome bytes s t (outcomes.Drawn v) (outcomes.Drawn w) h k = ap outcomes.Drawn (one_verdict bytes v w h.judged k.judged)
one_outcome bytes s t (outcomes.Drawn v) (outcomes.BadLine n) h k = absurd (excludes_records bytes n h.all k.0 h.is)
one_outcome bytes s t (outcomes.BadLine m) (outcomes.Drawn w) h k = absurd (excludes_records bytes m k.all h.0 k.is)
one_outcome bytes s t (outcomes.BadLine m) (outcomes.BadLine n) h k = ap outcomes.BadLine (one_first bytes m n h.0 k.0)
