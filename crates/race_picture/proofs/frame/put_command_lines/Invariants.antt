use Rattle.std.proofs.Common.{◌≡◌, ◌++◌, drop}
use Rattle.record_reader.specs.Words.{texts}
use Rattle.race_picture.specs.Frame.{commands_from}
use Rattle.race_picture.proofs.frame.put_command_lines.Given as goal

abbrev pub invariant-loop-at : goal.invariant-loop-at
invariant-loop-at l =
    l.out.items ++ commands_from l.sheet (texts l.pieces) l.at (drop l.at l.lines)
    ≡ l.fn.out.items ++ commands_from l.sheet (texts l.pieces) 0 l.lines
