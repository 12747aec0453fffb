use Rattle.std.proofs.Common.{rules, arith, Some, ◌∙◌}
use Rattle.turn_table.proofs.Uses.{met, one_more, one_more_off}
use Rattle.turn_table.proofs.ends.take_all.Goals as goal

pub unreachable-requires : goal.unreachable-requires
unreachable-requires g c =
    let t = c.requires.there c.loop-i.i (omega (arith, c.slot_count-i-end.ensures)) in
    c.in_default.not-Some t.0 (met _ _ c.loop-i.i c.take.result (Some t.0) c.take.ensures.value c.loop-i.invariant.items t.1)

pub loop-i-preserved : goal.loop-i-preserved
loop-i-preserved g c = record {
  full = search rules;
  empty = one_more_off _ _ c.loop-i.i c.take.ensures.others.1 c.loop-i.invariant.empty;
  items = c.take.ensures.others.0 ∙ c.loop-i.invariant.items;
  len = c.take.ensures.others.2 ∙ c.loop-i.invariant.len;
  values = one_more Some _ _ c.in-Some.x c.take.result _ _ c.loop-i.i c.push_reserved.ensures.items c.loop-i.invariant.values c.take.ensures.value c.in-Some.is c.loop-i.invariant.items;
  room = c.push_reserved.ensures.capacity ∙ c.loop-i.invariant.room;
  count = search rules;
}
