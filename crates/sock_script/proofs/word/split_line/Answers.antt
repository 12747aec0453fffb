use Rattle.std.proofs.Common.{rules, arith}
use Rattle.sock_script.proofs.TakenLines.{first_line, only_line}
use Rattle.sock_script.proofs.word.split_line.Goals as goal

pub returns-then-end-text-clause-lines : goal.returns-then-end-text-clause-lines
returns-then-end-text-clause-lines c =
    only_line c.args.text.now c.args.end c.requires (omega (arith, c.if-end-text.true))

pub returns-clause-lines : goal.returns-clause-lines
returns-clause-lines c =
    first_line c.args.text.now c.args.end c.requires (search rules)
