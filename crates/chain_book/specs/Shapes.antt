-- How large tables may be: our own limits. The kernel has a power of two for the size of each
-- of its hash tables, too.
use Rattle.std.specs.Prelude.{ℕ, ◌≤◌}
use Rattle.std.specs.Int.{IsPowerOfTwo}
use Rattle.chain_book.specs.declared.shape.Shape.{Shape}

-- a power of two, from 1 to `most`
abbrev pub IsPowerTo : ℕ → ℕ → Type 0
IsPowerTo most n = IsPowerOfTwo n × (n ≤ most)

-- how many slots and buckets there may be
pub record ShapeFits (shape : Shape) : Type 0 where
  pub slots : (1 ≤ shape.slots) × (shape.slots ≤ 65536)
  pub bind : IsPowerTo 256 shape.bind
  pub hash : IsPowerTo 65536 shape.hash
  pub listen : IsPowerTo 4096 shape.listen
