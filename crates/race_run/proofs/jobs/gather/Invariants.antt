use Rattle.std.proofs.Common.{◌≡◌, ◌+◌, ◌≤◌, length, drop, take, reverse, vec_len}
use Rattle.std.specs.List.{flat_map}
use Rattle.tickets.specs.Passes as draw
use Rattle.turn_table.specs.Passes as words
use Rattle.race_run.specs.Jobs.{IsGathered, outcomes_in, part_in}
use Rattle.race_run.specs.Joins.{Part}
use Rattle.race_run.specs.Shares.{HasMissedAsThey, items_in}
use Rattle.race_run.specs.Workers.{part_of}
use Rattle.sock_ops.specs.Tables.{IsAtRest}
use Rattle.race_run.proofs.jobs.gather.Given as goal

abbrev pub invariant-loop-result : goal.invariant-loop-result
invariant-loop-result l = record {
  rest : IsAtRest l.tables l.first;
  turn_parts : words.parts l.first.turns + vec_len l.left ≡ 16384;
  chain_parts : (part_of l.first).chain.slot.parts + vec_len l.left ≡ 16384;
  table : draw.IsPassOf l.tickets l.draws;
  draw_parts : draw.parts l.draws + vec_len l.left ≡ 16384;
  drawn : draw.drawn l.draws ≡ flat_map items_in l.given.items;
  missed : HasMissedAsThey l.fn.done.items (vec_len l.left) l.draws;
  few : vec_len l.left ≤ length l.fn.done.items;
  before : l.left.items ≡ take (vec_len l.left) l.fn.done.items;
  joined : (other : Part) → IsGathered (part_in other l.fn.done.items) (vec_len l.left) (length l.fn.done.items) (part_of l.first);
  counted : length l.given.items + vec_len l.left ≡ length l.fn.done.items;
  outcomes : reverse l.given.items ≡ outcomes_in (drop (vec_len l.left) l.fn.done.items);
}

abbrev pub decreases-loop-result : goal.decreases-loop-result
decreases-loop-result l = vec_len l.left
