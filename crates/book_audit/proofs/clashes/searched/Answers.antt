use Rattle.std.proofs.Common.{sym, ◌∙◌}
use Rattle.book_audit.specs.Stays.{clash_of}
use Rattle.book_audit.proofs.Defaults.{no_life}
use Rattle.book_audit.proofs.Faults.{clash_fails, clash_line}
use Rattle.book_audit.proofs.clashes.searched.Goals as goal

pub returns-then-clashes_with : goal.returns-then-clashes_with
returns-then-clashes_with c =
    clash_fails (clash_of c.args.clash) c.args.lives.now c.loop-at.at no_life c.loop-at-test.true c.loop-at.invariant
    (sym c.clashes_with.ensures ∙ c.if-clashes_with.true)

pub loop-at-preserved : goal.loop-at-preserved
loop-at-preserved c =
    clash_line (clash_of c.args.clash) c.args.lives.now c.loop-at.at no_life c.loop-at-test.true c.loop-at.invariant
    (sym c.clashes_with.ensures ∙ c.if-clashes_with.false)
