use Rattle.std.proofs.Common.{◌≡◌, ◌++◌, true, ◌+◌, ◌%◌, ◌≤◌, length, vec_len, vec_capacity}
use Rattle.bucket_locks.specs.Locks.{IsAt, WalkKnown}
use Rattle.table_rule.specs.Calls.{IsOf, Becomes, view}
use Rattle.race_run.specs.Rows.{cards_of}
use Rattle.race_run.proofs.chain_dump.listing.list.Given as goal

abbrev pub invariant-loop-count : goal.invariant-loop-count
invariant-loop-count l = record {
  table : IsOf l.chains l.steps;
  at : IsAt l.chains.layout l.locked (view l.steps);
  bucket : l.locked.bucket ≡ l.initial.locked.bucket;
  kept : Becomes l.initial.steps l.steps (record (view l.initial.steps) { chain = (view l.steps).chain });
  on : l.locked.started ≡ true → l.locked.link % 2 ≡ 0;
  known : WalkKnown l.chains.layout (view l.steps);
  count : length (view l.steps).chain.walked + length (view l.steps).chain.ahead ≡ l._count;
  few : l._count ≤ l.chains.layout.shape.slots;
  listed : l.items.items ≡ l.initial.items.items ++ cards_of ((view l.steps).chain.walked ++ (view l.steps).chain.ahead);
  len : vec_len l.items ≡ vec_len l.initial.items + l._count;
  room : vec_capacity l.items ≡ vec_capacity l.initial.items;
}
