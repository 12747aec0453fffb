use Rattle.std.proofs.Common.{arith}
use Rattle.book_audit.proofs.Clear.{told_clear}
use Rattle.book_audit.proofs.clashes.is_clear.Goals as goal

pub returns : goal.returns
returns c = told_clear c.args.clash c.args.lives.now c.loop-life.stays.items c.loop-life.life-index (omega arith) c.loop-life.invariant c.in_turn.result c.in_turn.ensures
