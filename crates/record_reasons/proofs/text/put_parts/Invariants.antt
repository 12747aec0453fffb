use Rattle.std.proofs.Common.{◌≡◌, ◌++◌, drop, take}
use Rattle.record_reader.specs.Words.{texts}
use Rattle.record_reasons.specs.Texts.{parts_from}
use Rattle.record_reasons.proofs.text.put_parts.Given as goal

abbrev pub invariant-loop-at : goal.invariant-loop-at
invariant-loop-at l =
    l.out.items ++ parts_from (texts l.pieces) l.lines l.cause l.at (drop l.at (take l.count l.lines))
    ≡ l.fn.out.items ++ parts_from (texts l.pieces) l.lines l.cause 0 (take l.count l.lines)
