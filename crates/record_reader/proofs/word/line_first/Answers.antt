use Rattle.std.proofs.Common.{sym}
use Rattle.inet_io.proofs.EndTexts.{tail_is}
use Rattle.record_reader.proofs.Feeds.{cut_at, uncut}
use Rattle.record_reader.proofs.word.line_first.Goals as goal

pub returns-in_err-end-clause-line : goal.returns-in_err-end-clause-line
returns-in_err-end-clause-line c = rw c.from_residual.ensures (uncut c.args.text.now (sym c.in_err-end.ensures.place))

pub returns-clause-line : goal.returns-clause-line
returns-clause-line c = rw tail_is (cut_at c.args.text.now c.in_ok-end.end (sym c.in_ok-end.ensures.place))
