use Rattle.std.proofs.Common.{◌≡◌, ℕ, ◌+◌, ◌/◌, ◌%◌, ◌^◌, ◌<◌, ◌≤◌, length, decimal, arith, length-append}
use Rattle.std.proofs.lemmas.Fmt.{length-decimal-le}
use Rattle.inet_io.specs.Texts.{addr_text}
use Rattle.sock_script.proofs.output.put_end.Goals as goal

-- three digits
byte_short : (n : ℕ) → n < 256 → length (decimal n) ≤ 3
byte_short n h = length-decimal-le 3 n (omega arith) (omega arith) (omega arith)

joined : (n : ℕ) → length (addr_text n) ≡ length (decimal (n / 2 ^ 24)) + 1 + length (decimal (n / 2 ^ 16 % 256)) + 1 + length (decimal (n / 2 ^ 8 % 256)) + 1 + length (decimal (n % 256))
joined n = simp length-append

-- an address has four numbers of three digits, and three dots
addr_short : (n : ℕ) → n < 2 ^ 32 → length (addr_text n) ≤ 15
addr_short n h =
    omega (arith, joined n, byte_short (n / 2 ^ 24) (omega arith), byte_short (n / 2 ^ 16 % 256) (omega arith), byte_short (n / 2 ^ 8 % 256) (omega arith), byte_short (n % 256) (omega arith))

pub put_addr-len-requires : goal.put_addr-len-requires
put_addr-len-requires c = omega (arith, addr_short c.args.end.addr (omega arith))
