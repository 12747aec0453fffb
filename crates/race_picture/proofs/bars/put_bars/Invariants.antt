use Rattle.std.proofs.Common.{◌≡◌, ◌++◌, drop}
use Rattle.std.specs.List.{flat_map}
use Rattle.record_reader.specs.Words.{texts}
use Rattle.race_picture.specs.Bars.{bar}
use Rattle.race_picture.proofs.bars.put_bars.Given as goal

abbrev pub invariant-loop-bar : goal.invariant-loop-bar
invariant-loop-bar l =
    l.out.items ++ flat_map (bar l.sheet (texts l.pieces) l.lines l.verdict) (drop l.bar-index l.bars)
    ≡ l.fn.out.items ++ flat_map (bar l.sheet (texts l.pieces) l.lines l.verdict) l.bars
