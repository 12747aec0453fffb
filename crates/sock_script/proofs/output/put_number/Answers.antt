use Rattle.std.proofs.Common.{arith}
use Rattle.std.proofs.lemmas.Fmt.{decimal_digit}
use Rattle.sock_script.proofs.output.put_number.Goals as goal

pub returns-then-n-lt10 : goal.returns-then-n-lt10
returns-then-n-lt10 c = rw (decimal_digit c.args.n (omega (arith, c.if-n-lt10.true))) c.put_byte.ensures
