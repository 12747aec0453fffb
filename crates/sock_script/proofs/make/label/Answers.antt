use Rattle.std.proofs.Common.{arith, ℕ, ◌<◌, ◌≤◌, Option, Some, None, IfNone, IsSome, refl}
use Rattle.std.proofs.lemmas.Fmt.{length-decimal-le}
use Rattle.std.proofs.lemmas.List.{length-take}
use Rattle.sock_script.proofs.make.label.Goals as goal

-- a number of 32 bits has ten digits at most
pub put_num-len-requires : goal.put_num-len-requires
put_num-len-requires c = omega (arith, length-decimal-le 10 c.from.result (omega arith) (omega arith) (omega arith))

-- a text of at most 16 bytes is a label
short_enough : {A : Type 0} (o : Option A) (n : ℕ) → IfNone o (16 < n) → n ≤ 16 → IsSome o
short_enough None n h k = absurd (omega arith)
short_enough (Some x) n h k = refl

pub unwrap-requires : goal.unwrap-requires
unwrap-requires c =
    let digits = length-decimal-le 10 c.from.result (omega arith) (omega arith) (omega arith) in
    short_enough c.from_bytes.result _ c.from_bytes.ensures.none (omega (arith, length-take c.put_num-len.result c.put_num-len.new.out, digits))
