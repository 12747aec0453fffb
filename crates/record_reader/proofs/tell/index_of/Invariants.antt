use Rattle.std.proofs.Common.{◌≡◌, length, take}
use Rattle.record_reader.specs.Told.{names_of}
use Rattle.record_reader.specs.Numbers.{IsIndexOf}
use Rattle.record_reader.proofs.tell.index_of.Given as goal

abbrev pub invariant-loop-line : goal.invariant-loop-line
invariant-loop-line l =
    (length (names_of (take l.line-index l.lines)) ≡ l.place) × IsIndexOf l.index (names_of (take l.line-index l.lines))
