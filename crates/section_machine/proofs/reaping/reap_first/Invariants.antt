use Rattle.std.proofs.Common.{length}
use Rattle.section_machine.proofs.ReapsMost.{Bounded}
use Rattle.section_machine.proofs.reaping.reap_first.Given as goal

abbrev pub invariant-loop-waiting : goal.invariant-loop-waiting
invariant-loop-waiting g l = Bounded l.tables l.fn.worker l.worker l.fn.items.items l.items.items l.moment l.count l.most l.left

abbrev pub decreases-loop-waiting : goal.decreases-loop-waiting
decreases-loop-waiting g l = length l.items.items
