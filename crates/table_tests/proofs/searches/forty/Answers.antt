use Rattle.std.proofs.Common.{ℕ, List, length, ap}
use Rattle.table_tests.proofs.searches.forty.Goals as goal

pub returns : goal.returns
returns c = ap (λ (l : List ℕ). length l) c.new.ensures.order
