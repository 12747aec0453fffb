use Rattle.std.proofs.Common.{arith}
use Rattle.std.proofs.lemmas.Fmt.{length-decimal-le}
use Rattle.sock_script.proofs.counts.put_line.Goals as goal

-- a number of 64 bits has 20 digits at most
pub put_num-len-requires : goal.put_num-len-requires
put_num-len-requires c = omega (arith, length-decimal-le 20 c.args.n (omega arith) (omega arith) (omega arith))
