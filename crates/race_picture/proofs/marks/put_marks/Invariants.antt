use Rattle.std.proofs.Common.{◌≡◌, ◌++◌, drop}
use Rattle.std.specs.List.{flat_map}
use Rattle.record_reader.specs.Words.{texts}
use Rattle.race_picture.specs.Marks.{mark}
use Rattle.race_picture.proofs.marks.put_marks.Given as goal

abbrev pub invariant-loop-mark : goal.invariant-loop-mark
invariant-loop-mark l =
    l.out.items ++ flat_map (mark l.sheet (texts l.pieces) l.lines l.verdict) (drop l.mark-index l.marks)
    ≡ l.fn.out.items ++ flat_map (mark l.sheet (texts l.pieces) l.lines l.verdict) l.marks
