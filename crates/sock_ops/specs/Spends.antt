-- What an operation takes of the numbers that a worker may draw: our own.
use Rattle.std.specs.Prelude.{ℕ, ◌+◌}
use Rattle.sock_ops.specs.declared.tables.Worker.{Worker}
use Rattle.sock_ops.specs.Stands.{MayDraw}

-- it drew so many numbers of the clock at most: what else it could draw it still can
abbrev pub Draws : ℕ → Worker → Worker → Type 0
Draws n w u = (more : ℕ) → MayDraw (more + n) w → MayDraw more u
