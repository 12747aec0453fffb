use Rattle.std.proofs.Common.{sym, ◌∙◌}
use Rattle.book_audit.specs.Lines.{ascends}
use Rattle.book_audit.proofs.Faults.{each_all}
use Rattle.book_audit.proofs.stamps.first_unstamped.Goals as goal

pub returns-then-branch : goal.returns-then-branch
returns-then-branch c = record {
  ascend = each_all (ascends c.args.clock) c.args.lives.now (sym c.all_ascend.ensures ∙ c.if-all_ascend.true);
  differ = c.in_ok-is_clear.ensures c.if-branch.true;
}
