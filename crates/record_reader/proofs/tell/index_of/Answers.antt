use Rattle.std.proofs.Common.{arith}
use Rattle.record_reader.proofs.Indexed.{indexed}
use Rattle.record_reader.proofs.tell.index_of.Goals as goal

pub loop-line-preserved : goal.loop-line-preserved
loop-line-preserved c =
    indexed c.args.lines.now c.loop-line.line-index c.loop-line.place c.in_ok-place.place _ c.loop-line.index c.note_line.new.index (omega arith) c.loop-line.invariant c.in_ok-place.ensures
