-- A label in a field of 16 bytes: a format of our own.
--
-- With the proofs that the model of `Label` needs: `bytes_back`, and `length_back` by `by_lengths`.
use Rattle.std.specs.Prelude.{◌≡◌, ℕ, ◌+◌, ◌-◌, ◌≤◌, List, ◌++◌, length, take, replicate, min}
use Rattle.std.proofs.Common.{length-append, sym, ap, ◌∙◌, arith}
use Rattle.std.proofs.lemmas.List.{length-replicate, length-take}

-- the bytes, and zeros behind them up to 16
abbrev pub padded : List ℕ → List ℕ
padded text = text ++ replicate (16 - length text) 0

-- the field of what was read of it is the field
pub bytes_back : (bytes : List ℕ) (n : ℕ) → (n ≤ 16) × (bytes ≡ padded (take n bytes)) → padded (take n bytes) ≡ bytes
bytes_back bytes n h = sym h.1

by_lengths : (whole part n : ℕ) → n ≤ 16 → part ≡ min n whole → whole ≡ part + (16 - part) → part ≡ n
by_lengths whole part n few is all = omega arith

-- what was read of it is as long as it was to be
pub length_back : (bytes : List ℕ) (n : ℕ) → (n ≤ 16) × (bytes ≡ padded (take n bytes)) → length (take n bytes) ≡ n
length_back bytes n h =
    by_lengths (length bytes) (length (take n bytes)) n h.0 (length-take n bytes)
    (ap length h.1 ∙ length-append (take n bytes) (replicate (16 - length (take n bytes)) 0)
    ∙ ap (λ m. length (take n bytes) + m) (length-replicate (16 - length (take n bytes)) 0))
