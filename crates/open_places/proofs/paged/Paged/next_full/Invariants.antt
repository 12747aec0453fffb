use Rattle.std.proofs.Common.{◌≤◌, ◌-◌, length}
use Rattle.open_places.specs.Cells.{AreEmpty}
use Rattle.open_places.proofs.paged.Paged.next_full.Given as goal

abbrev pub invariant-loop-from : goal.invariant-loop-from
invariant-loop-from g l = (l.fn.first ≤ l.from) × AreEmpty l.self.cells l.fn.first l.from

abbrev pub decreases-loop-from : goal.decreases-loop-from
decreases-loop-from g l = length l.self.cells - l.from
