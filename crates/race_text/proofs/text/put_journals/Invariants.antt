use Rattle.std.proofs.Common.{◌≡◌, ◌++◌, drop}
use Rattle.race_text.specs.Render.{journal_lines}
use Rattle.race_text.proofs.text.put_journals.Given as goal

abbrev pub invariant-loop-bucket : goal.invariant-loop-bucket
invariant-loop-bucket l = l.out.items ++ journal_lines l.bucket (drop l.bucket l.counts) ≡ l.fn.out.items ++ journal_lines 0 l.counts
