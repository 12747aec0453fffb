-- What a seed is: our own, over the standard library's `FoldHasher`. No public contract of another crate cites this
-- file.
use Rattle.std.specs.Prelude.{ℕ}
use Rattle.std.specs.List.{fold}
use Rattle.std.specs.Hash.{u64}
use Rattle.std.specs.Hash.FoldHasher.{initial, write}
use Rattle.std.specs.declared.hash.FoldHasher.{FoldHasher}

-- the hasher that was fed that number
abbrev pub fed : ℕ → FoldHasher
fed number = fold write initial (u64 number)
