-- What the reaping of so many TIME_WAITs at most comes to, whoever else was at the tables: our own.
--
-- Contracts of public calls cite `ReapsMost`; `ReapsFirst` is of private functions.
use Rattle.std.specs.Prelude.{◌≡◌, ℕ, ◌+◌, List, length}
use Rattle.bind_buckets.specs.Turned.{View}
use Rattle.flat_list.specs.declared.command.Command.TheVariants as commands
use Rattle.flat_list.specs.declared.command.Reply.TheVariants as replies
use Rattle.flat_list.specs.declared.header.Header.{Header}
use Rattle.sock_ops.specs.Sides.{Side}
use Rattle.table_model.specs.Asking.{ends}
use Rattle.table_model.specs.Operations.{reap, kept_waits}
use Rattle.table_model.specs.Own.{Own, Mine}
use Rattle.sock_ops.specs.Goes.{Went}
use Rattle.section_machine.specs.LeftOff.{LeftOff, StopsReaping}
use Rattle.section_machine.specs.Sections.{Did}
use Rattle.section_machine.specs.declared.reaping.Gone.{Gone}
use Rattle.section_machine.specs.declared.reaping.Gone.TheVariants as reapings

-- all that are over were reaped, so many of them still there; or, since more are over, just as many as there were to be
abbrev pub ReapsFirst
    : (count : ℕ) → List Mine → (moment : ℕ) → View → View → Side → Side → List Mine → (most : ℕ) → Gone → Type 0
ReapsFirst count all moment v w c d left most (reapings.All n) =
    Went count (reap all moment) v w c d (ends n) × (left ≡ kept_waits all moment)
ReapsFirst count all moment v w c d left most (reapings.More n) =
    (stops : StopsReaping count all moment v w c d left) × (stops.reaped ≡ n) × (length all ≡ length left + most)

-- `reap` was carried out, with that reply; or it was left off behind as many TIME_WAITs as there were to be, so many of
-- them still there, and the first that is left is over
abbrev pub ReapsMost : Header → Own → (most : ℕ) → View → View → Side → Side → Own → Gone → Type 0
ReapsMost header own most v w c d next (reapings.All n) = Did header own commands.Reap v w c d next (replies.Count n)
ReapsMost header own most v w c d next (reapings.More n) =
    (left : LeftOff header own commands.Reap v w c d next) × (left.leaves.count ≡ n)
    × (length own.waits ≡ length next.waits + most)
