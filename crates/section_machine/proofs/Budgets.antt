-- What commands take of a worker's numbers.
use Rattle.std.proofs.Common.{◌≡◌, ℕ, ◌+◌, ◌*◌, ◌≤◌, length, arith}
use Rattle.section_machine.specs.Carried.{HasEnough, MayCarry, MayGoOn, Spends}
use Rattle.section_machine.specs.Sections.{Kept}
use Rattle.sock_ops.specs.declared.tables.Worker.{Worker}

-- a section begins, with no TIME_WAIT of its own
pub go_on_first : (n : ℕ) (k : Kept) (w : Worker) → length k.own.waits ≡ 0 → MayCarry n w → MayGoOn n k w
go_on_first n k w none may = let enters = may.enters in let draws = may.draws in record { enters = omega (arith, enters, none); draws = omega (arith, draws, none) }

-- its next command
pub go_on_enough : (n : ℕ) (k : Kept) (w : Worker) → MayGoOn (n + 1) k w → HasEnough k w
go_on_enough n k w may = let enters = may.enters in let draws = may.draws in record { enters = omega (arith, enters); draws = omega (arith, draws) }

pub go_on_next : (n : ℕ) (k l : Kept) (w u : Worker) → MayGoOn (n + 1) k w → Spends k l w u → MayGoOn n l u
go_on_next n k l w u may spends =
    let enters = may.enters in
    let entered = spends.entered in
    record { enters = omega (arith, enters, entered); draws = spends.drawn (6 * n) (let d = may.draws in omega (arith, d)) }

-- and it ends
pub go_on_last : (n : ℕ) (k : Kept) (w : Worker) → MayGoOn n k w → MayCarry n w
go_on_last n k w may = let enters = may.enters in let draws = may.draws in record { enters = omega (arith, enters); draws = omega (arith, draws) }

-- fewer commands
pub carry_fewer : (n m : ℕ) (w : Worker) → m ≤ n → MayCarry n w → MayCarry m w
carry_fewer n m w less may = let enters = may.enters in let draws = may.draws in record { enters = omega (arith, enters, less); draws = omega (arith, draws, less) }
