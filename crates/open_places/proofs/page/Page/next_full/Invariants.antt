use Rattle.std.proofs.Common.{◌≤◌}
use Rattle.open_places.specs.Pages.{HasNoneBetween}
use Rattle.open_places.proofs.page.Page.next_full.Given as goal

abbrev pub invariant-loop-place : goal.invariant-loop-place
invariant-loop-place g l = (l.fn.first ≤ l.place) × HasNoneBetween l.self l.fn.first l.place
