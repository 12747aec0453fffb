-- What commands take of the worker's numbers.
use Rattle.std.proofs.Common.{◌≡◌, ℕ, ◌+◌, ◌*◌, ◌≤◌, List, length, ap, arith}
use Rattle.turn_table.specs.Passes as words
use Rattle.table_model.specs.Own.{Mine}
use Rattle.sock_ops.specs.declared.tables.Worker.{Worker}
use Rattle.sock_ops.specs.Spends.{Draws}
use Rattle.sock_ops.specs.Stands.{MayEnter, MayDraw}
use Rattle.section_machine.specs.Carried.{HasEnough, Spends}
use Rattle.section_machine.specs.Sections.{Kept}

-- an operation's, which leaves so many TIME_WAITs more
pub spends_of : (old new : Kept) (w u : Worker) (ws : List Mine) (n e more : ℕ) → length old.own.waits ≡ length ws → length new.own.waits ≤ length ws + more → words.draws u.turns ≤ words.draws w.turns + e → e + more ≤ 65540 → n + 2 * more ≤ 6 → Draws n w u → Spends old new w u
spends_of old new w u ws n e more before after entered few most drawn =
    record {
      entered = omega arith;
      drawn = λ rest may. let far = drawn (rest + 2 * length new.own.waits) (omega arith) in omega arith;
    }

-- who does nothing takes nothing
pub spends_none : (old new : Kept) (w : Worker) → new.own.waits ≡ old.own.waits → Spends old new w w
spends_none old new w same =
    let long : length new.own.waits ≡ length old.own.waits = ap length same in
    record { entered = omega arith; drawn = λ rest may. omega arith }

-- what two commands take is enough for the second one
pub enough_after : (old new : Kept) (w u : Worker) → MayEnter (2 * 65540 + length old.own.waits) w → MayDraw (2 * 6 + 2 * length old.own.waits) w → Spends old new w u → HasEnough new u
enough_after old new w u enters draws spends =
    let entered = spends.entered in
    record { enters = omega arith; draws = spends.drawn 6 (omega arith) }
