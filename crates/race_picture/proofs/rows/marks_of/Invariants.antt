use Rattle.std.proofs.Common.{◌≡◌, ◌++◌, [], drop}
use Rattle.record_reader.specs.Words.{texts}
use Rattle.race_picture.specs.Rows.{marks_from}
use Rattle.race_picture.proofs.rows.marks_of.Given as goal

abbrev pub invariant-loop-at : goal.invariant-loop-at
invariant-loop-at l =
    l.marks.items ++ marks_from l.window l.at l.ends.items (texts l.pieces) (drop l.at l.lines)
    ≡ marks_from l.window 0 [] (texts l.pieces) l.lines
