use Rattle.std.proofs.Common.{length}
use Rattle.record_reader.proofs.Reading.{HasRead}
use Rattle.record_reader.proofs.read.read_lines.Given as goal

abbrev pub invariant-loop-line : goal.invariant-loop-line
invariant-loop-line l = HasRead l.text l.lines.items l.rest

abbrev pub decreases-loop-line : goal.decreases-loop-line
decreases-loop-line l = length l.rest
