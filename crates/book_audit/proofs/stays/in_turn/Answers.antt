use Rattle.std.proofs.Common.{List, subst}
use Rattle.book_audit.specs.declared.stays.Stay.{Stay}
use Rattle.book_audit.specs.Stays.{NoneRunsInto}
use Rattle.book_audit.proofs.Order.{any_order}
use Rattle.book_audit.proofs.stays.in_turn.Goals as goal

pub returns : goal.returns
returns c = λ told.
    any_order c.args.stays.items c.sort_by_key.new.self.items c.in_ok-sort_by_key.ensures.permutation
    (subst (λ (xs : List Stay). NoneRunsInto xs) c.deref.ensures.value (c.follow.ensures told))
