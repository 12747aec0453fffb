use Rattle.std.proofs.Common.{arith}
use Rattle.flat_list.specs.Groups.{renamed}
use Rattle.flat_list.proofs.Written.{map_over_read}
use Rattle.flat_list.proofs.group.replace.Goals as goal

pub loop-member-preserved : goal.loop-member-preserved
loop-member-preserved c =
    map_over_read (renamed c.args.old c.args.new) _ _ _ _ _ (omega arith) (omega arith) c.loop-member.invariant c.renamed.ensures
