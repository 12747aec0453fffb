use Rattle.std.proofs.Common.{◌≡◌, ℕ, length}
use mathlib.Core.Option.{some}
use lib.ListN.{get_elem?}
use Rattle.table_rule.specs.Calls.{FirstWord}
use Rattle.table_rule.proofs.table.Chains.of_shape.Given as goal
use Rattle.table_rule.specs.Words.{bucket_count}

abbrev pub invariant-loop-at : goal.invariant-loop-at
invariant-loop-at l = record {
  len : length l.words.items ≡ l.at;
  all : (k x : ℕ) → get_elem? l.words.items k ≡ some x → FirstWord (bucket_count l.layout) k x;
}
