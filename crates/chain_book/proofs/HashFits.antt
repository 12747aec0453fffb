-- A packet's hash has 32 bits, and so it is scaled to one of the places.
use Rattle.std.proofs.Common.{ℕ, ◌%◌, ◌^◌, ◌<◌, ◌≤◌, arith}
use Rattle.std.proofs.Math.Nat.{div-lt_iff_lt-mul}
use Rattle.sock_card.specs.declared.card.Packet.{Packet}
use Rattle.jhash_words.specs.Jhash.{mixed, final_mix, started_mix, jhash_3words}
use Rattle.jhash_words.specs.Places.{tuple_hash, scale}
use Rattle.chain_book.specs.Homes.{packet_hash}

rest_fits : (x : ℕ) → x % 2 ^ 32 < 2 ^ 32
rest_fits x = omega arith

mixed_fits : (x y by : ℕ) → mixed x y by < 2 ^ 32
unfolding mixed
mixed_fits x y by = rest_fits _

final_fits : (a b c : ℕ) → final_mix a b c < 2 ^ 32
unfolding final_mix
final_fits a b c = mixed_fits _ _ 24

started_fits : (a b c start : ℕ) → started_mix a b c start < 2 ^ 32
unfolding started_mix
started_fits a b c start = final_fits _ _ _

words_fit : (a b c initial : ℕ) → jhash_3words a b c initial < 2 ^ 32
unfolding jhash_3words
words_fit a b c initial = started_fits _ _ _ _

-- a hash has 32 bits
pub hash_fits : (packet : Packet) (seed : ℕ) → packet_hash packet seed < 2 ^ 32
unfolding tuple_hash
hash_fits packet seed = words_fit _ _ _ _

-- and so it is scaled to one of the places
pub scale_below : (hash n : ℕ) → hash < 2 ^ 32 → 1 ≤ n → scale hash n < n
scale_below hash n h some = grind (arith, div-lt_iff_lt-mul)
