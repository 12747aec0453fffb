use Rattle.std.proofs.Common.{List, ◌++◌, Bool, length}
use Rattle.capture_reader.specs.declared.packet.Item.{Item}
use Rattle.capture_reader.specs.Grammar.{AreRecords}
use Rattle.capture_reader.proofs.capture.read_records.Given as goal

abbrev pub invariant-loop-stored : goal.invariant-loop-stored
invariant-loop-stored l =
    (more : List Item) (cut : Bool) → AreRecords l.header l.dev l.net l.rest more cut → AreRecords l.header l.dev l.net l.bytes (l.items.items ++ more) cut

abbrev pub decreases-loop-stored : goal.decreases-loop-stored
decreases-loop-stored l = length l.rest
