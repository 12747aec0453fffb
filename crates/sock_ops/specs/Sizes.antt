-- What a chain table is made for: our own.
use Rattle.std.specs.Prelude.{◌+◌, ◌^◌, ◌<◌}
use Rattle.chain_book.specs.declared.shape.Shape.{Shape}

-- there are buckets of both kinds, and their numbers fit 32 bits
pub record IsSized (shape : Shape) : Type 0 where
  pub hash : 0 < shape.hash
  pub listen : 0 < shape.listen
  pub fits : shape.hash + shape.listen < 2 ^ 32
