use Rattle.std.proofs.Common.{◌≡◌, ◌≤◌, take, count_by}
use Rattle.record_reader.specs.Verdicts as spec
use Rattle.record_reader.proofs.audit.line_of.Given as goal

abbrev pub invariant-loop-place : goal.invariant-loop-place
invariant-loop-place l =
    (count_by (spec.is_tried l.why) (take l.place l.lines) ≡ l.before) × (l.before ≤ l.at)
