-- The texts of numbers, addresses and ends. Addresses are in dotted decimal, the form of RFC 1123 section 2.1, of
-- 32 bits as in ip(7); that a number has no sign and no leading zero, and at most ten digits, is our own rule.
use Rattle.std.specs.Prelude.{◌≡◌, ℕ, ◌+◌, ◌/◌, ◌%◌, ◌^◌, ◌<◌, ◌≤◌, List, ◌++◌, length, take, drop, codes, decimal}

-- An address as four numbers with dots between them, the highest byte first.
abbrev pub addr_text : ℕ → List ℕ
addr_text n = decimal (n / 2 ^ 24) ++ codes "." ++ decimal (n / 2 ^ 16 % 256) ++ codes "."
    ++ decimal (n / 2 ^ 8 % 256) ++ codes "." ++ decimal (n % 256)

-- An end as an address, a colon and a port.
abbrev pub end_text : ℕ → ℕ → List ℕ
end_text addr port = addr_text addr ++ codes ":" ++ decimal port

-- The text is a number of at most ten digits with no leading zero, between `least` and `most`.
pub record IsNumber (least most : ℕ) (text : List ℕ) (n : ℕ) : Type 0 where
  pub low : least ≤ n
  pub high : n ≤ most
  pub short : n < 10 ^ 10
  pub spelled : text ≡ decimal n

-- The text is this address and this port, which is at least so much.
pub record IsEndText (least : ℕ) (text : List ℕ) (addr port : ℕ) : Type 0 where
  pub spelled : text ≡ end_text addr port
  pub addr_fits : addr < 2 ^ 32
  pub low : least ≤ port
  pub high : port < 2 ^ 16

-- The text stands in `new` from `at` on, and all else is as in `old`.
abbrev pub PutsAt : List ℕ → ℕ → List ℕ → List ℕ → Type 0
PutsAt old at text new = new ≡ take at old ++ (text ++ drop (at + length text) old)

-- Two addresses that have one text are the same.
abbrev pub AddrTextsDiffer : Type 0
AddrTextsDiffer = (a b : ℕ) → a < 2 ^ 32 → b < 2 ^ 32 → addr_text a ≡ addr_text b → a ≡ b

-- Two ends that have one text have the same address and the same port.
abbrev pub EndTextsDiffer : Type 0
EndTextsDiffer = (a p b q : ℕ) → a < 2 ^ 32 → b < 2 ^ 32 → p < 2 ^ 16 → q < 2 ^ 16
    → end_text a p ≡ end_text b q → (a ≡ b) × (p ≡ q)
