-- What is left of a search's ports, of which it passes the reserved ones by: our own rule.
use Rattle.std.specs.Prelude.{ℕ, List, drop}
use Rattle.flat_list.specs.Ports.{unreserved, whole_order}
use Rattle.port_search.specs.declared.ports.Ports.TheInside.{Inside}

abbrev pub left_of : Inside → List ℕ
left_of f = unreserved f.range (drop f.tried (whole_order f.range f.offset f.first))
