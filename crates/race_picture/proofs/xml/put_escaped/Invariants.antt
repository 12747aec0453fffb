use Rattle.std.proofs.Common.{◌≡◌, ◌++◌, drop}
use Rattle.race_picture.specs.Xml.{escaped}
use Rattle.race_picture.proofs.xml.put_escaped.Given as goal

abbrev pub invariant-loop-b : goal.invariant-loop-b
invariant-loop-b l = l.out.items ++ escaped (drop l.b-index l.text) ≡ l.fn.out.items ++ escaped l.text
