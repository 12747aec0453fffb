use Rattle.std.proofs.Common.{◌≡◌, ◌++◌, length}
use Rattle.std.specs.List.{flat_map}
use Rattle.std.specs.Vec.Iter.{into_iter_items, into_iter_len}
use Rattle.race_run.specs.Finished.{listings_in}
use Rattle.race_run.proofs.tell.all_listings.Given as goal

abbrev pub invariant-loop-outcome : goal.invariant-loop-outcome
invariant-loop-outcome l = record {
  left : l.yielded ++ into_iter_items l.outcome-iterator ≡ into_iter_items l.initial.outcome-iterator;
  long : into_iter_len l.outcome-iterator ≡ length (into_iter_items l.outcome-iterator);
  listed : l.listings.items ≡ flat_map listings_in l.yielded;
}
