use Rattle.reuseport_group.proofs.Uses.{stored_all}
use Rattle.reuseport_group.proofs.pass.Groups.store_members.Goals as goal

pub returns-clause-members : goal.returns-clause-members
returns-clause-members c = stored_all c.args.passes.now.seat.me.0 c.store_members_as.new.passes.seat.me.0 c.store_members_as.new.passes.seat.me.0.moments _ _ c.store_members_as.ensures.view
