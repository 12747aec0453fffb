use Rattle.std.proofs.Common.{◌≡◌, ℕ, ◌+◌, ◌<◌, false, get_or, map, take, Some, vec_len, vec_capacity}
use Rattle.std.specs.Slots.{slots_items, slots_filled, slots_len}
use Rattle.std.specs.Slots.Ownership.{Filled}
use Rattle.turn_table.proofs.ends.take_all.Given as goal

abbrev pub invariant-loop-i : goal.invariant-loop-i
invariant-loop-i g l = record {
  full : Filled (slots_filled l.closed.slots) l.i (slots_len l.closed.slots);
  empty : (k : ℕ) → k < l.i → get_or (slots_filled l.closed.slots) k false ≡ false;
  items : slots_items l.closed.slots ≡ slots_items l.initial.closed.slots;
  len : slots_len l.closed.slots ≡ slots_len l.initial.closed.slots;
  values : map Some l.values.items ≡ take l.i (slots_items l.initial.closed.slots);
  room : vec_capacity l.values ≡ vec_capacity l.initial.values;
  count : vec_len l.values ≡ vec_len l.initial.values + l.i;
}
