use Rattle.std.proofs.Common.{◌∙◌, ◌<◌, sym, subst}
use Rattle.reuseport_group.proofs.Uses.{view_next}
use Rattle.reuseport_group.proofs.pass.Groups.store_members_as.Goals as goal

pub store_member_as-requires-clause-part : goal.store_member_as-requires-clause-part
store_member_as-requires-clause-part g c = subst (λ v. 0 < v.parts) (sym c.loop-i.invariant.view) c.requires.part

pub loop-i-preserved : goal.loop-i-preserved
loop-i-preserved g c = record {
  table = c.store_member_as.ensures.table ∙ c.loop-i.invariant.table;
  view = view_next c.loop-i.i c.args.passes.now.seat.me.0 _ _ _ _ c.loop-i.invariant.view c.store_member_as.ensures.view;
  later = λ h p. c.loop-i.invariant.later h (c.store_member_as.ensures.later h p);
}
