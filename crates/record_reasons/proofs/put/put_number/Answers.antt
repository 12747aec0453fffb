use Rattle.std.proofs.Common.{arith}
use Rattle.std.proofs.lemmas.Fmt.{length-decimal-le}
use Rattle.record_reasons.proofs.put.put_number.Goals as goal

-- a number of 64 bits has 20 digits at most
pub write_digits-start-requires : goal.write_digits-start-requires
write_digits-start-requires c = (length-decimal-le 20 c.args.n (omega arith) (omega arith) (omega arith), omega arith)
