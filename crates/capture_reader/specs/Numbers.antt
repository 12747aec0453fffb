-- Numbers in a text of bytes. RFC 791, appendix B, has the highest byte of a number first; a capture has the order of
-- the machine that wrote it (draft-ietf-opsawg-pcap, section 4).
use Rattle.std.specs.Prelude.{ℕ, ◌<◌, List, drop, slice_index}
use Rattle.byteorder.specs.Endian.{big_number, little_number}
use Rattle.capture_reader.specs.declared.number.Order.{Order}
use Rattle.capture_reader.specs.declared.number.Order.TheVariants as orders

-- the number in the n bytes from a place on
unfoldable pub number : Order → ℕ → ℕ → List ℕ → ℕ
number orders.Big n place bytes = big_number n (drop place bytes)
number orders.Little n place bytes = little_number n (drop place bytes)

-- each is a byte
abbrev pub AreBytes : List ℕ → Type 0
AreBytes bytes = (i : ℕ) → slice_index bytes i < 256
