use Rattle.std.proofs.Common.{◌≡◌, ◌-◌, map}
use Rattle.reuseport_group.specs.Passes.{IsPassOf}
use Rattle.table_rule.specs.Calls.{me}
use Rattle.table_rule.specs.Passes.{known}
use Rattle.tickets.specs.Passes as draw
use Rattle.race_run.specs.Lookers.{item_of}
use Rattle.race_run.specs.Looking.{MayLook, TakesAll}
use Rattle.race_run.proofs.looker.look_drawn.Given as goal

abbrev pub invariant-loop-item : goal.invariant-loop-item
invariant-loop-item g l = record {
  looks : MayLook l.table l.pass;
  groups : IsPassOf l.groups l.group_passes;
  part : (known l.pass.pass).slot.parts ≡ (known l.initial.pass.pass).slot.parts;
  table : draw.IsPassOf l.tickets l.draws;
  still : draw.IsOpen l.draws;
  own : draw.parts l.draws ≡ 1;
  drawn : draw.drawn l.draws ≡ map item_of l.told.items;
  takes : TakesAll l.table l.passes l.items (me l.initial.pass.pass.steps) (me l.pass.pass.steps) l.told.items;
}

abbrev pub decreases-loop-item : goal.decreases-loop-item
decreases-loop-item g l = draw.tickets l.tickets - draw.seen l.draws
