use Rattle.std.proofs.Common.{◌≡◌, ◌++◌, drop}
use Rattle.std.specs.List.{flat_map}
use Rattle.race_picture.specs.Marks.{link}
use Rattle.race_picture.proofs.marks.put_links.Given as goal

abbrev pub invariant-loop-mark : goal.invariant-loop-mark
invariant-loop-mark l =
    l.out.items ++ flat_map (link l.sheet l.lines l.bars) (drop l.mark-index l.marks)
    ≡ l.fn.out.items ++ flat_map (link l.sheet l.lines l.bars) l.marks
