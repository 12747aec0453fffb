use Rattle.std.proofs.Common.{sym, ◌∙◌}
use Rattle.book_audit.proofs.Defaults.{no_life}
use Rattle.book_audit.proofs.Faults.{stamped_line, falling_fails, sharing_fails}
use Rattle.book_audit.proofs.stamps.searched.Goals as goal
use Rattle.book_audit.proofs.stamps.searched.Goals.{then-not-ascends-via-then-not-ascends, then-not-ascends-via-else-not-ascends+then-clashes_with}

pub returns-then-not-ascends : goal.returns-then-not-ascends
returns-then-not-ascends c = elim c.then-not-ascends.branch [
  | then-not-ascends-via-then-not-ascends w ↦
      falling_fails c.args.clock c.args.lives.now c.loop-at.at no_life c.loop-at-test.true c.loop-at.invariant
      (sym c.ascends.ensures ∙ w.if-not-ascends.true)
  | then-not-ascends-via-else-not-ascends+then-clashes_with w ↦
      sharing_fails c.args.clock c.args.lives.now c.loop-at.at no_life c.loop-at-test.true c.loop-at.invariant
      (sym w.clashes_with.ensures ∙ w.if-clashes_with.true)
]

pub loop-at-preserved : goal.loop-at-preserved
loop-at-preserved c =
    stamped_line c.args.clock c.args.lives.now c.loop-at.at no_life c.loop-at-test.true c.loop-at.invariant
    (sym c.ascends.ensures ∙ c.if-not-ascends.false) (sym c.clashes_with.ensures ∙ c.if-clashes_with.false)
