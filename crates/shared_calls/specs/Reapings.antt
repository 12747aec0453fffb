-- What comes of the reaping of so many TIME_WAITs at most. Our own.
--
-- To be read from `ReapsUnder` upwards.
use Rattle.std.specs.Prelude.{◌≡◌, ℕ, ◌+◌, ◌-◌, ◌≤◌, length, Result, Ok, Err}
use Rattle.flat_calls.specs.declared.outcome.Outcome.{Outcome}
use Rattle.flat_calls.specs.declared.outcome.Outcome.TheVariants as outcomes
use Rattle.flat_list.specs.declared.command.Command.TheVariants as commands
use Rattle.section_machine.specs.Reaping.{ReapsMost}
use Rattle.section_machine.specs.declared.reaping.Gone.{Gone}
use Rattle.sock_ops.specs.Stands.{turned, chained}
use Rattle.shared_calls.specs.Callings.{Calling, Called, Tried}
use Rattle.shared_calls.specs.declared.limited.Limited.{Limited}

-- `reap` was carried out, or left off behind as many TIME_WAITs as there were to be, since the first that is left has
-- lasted its minute
pub record ReapsTo (old new : Calling) (most : ℕ) (gone : Gone) : Type 0 where
  pub tried : Tried old new commands.Reap
  pub reaps : ReapsMost old.kept.header old.kept.own most (turned old.worker) (turned new.worker)
      (chained old.tables old.worker) (chained old.tables new.worker) new.kept.own gone

-- the outcome is no reply
abbrev pub IsNoReply : Outcome → Type 0
IsNoReply (outcomes.Replied reply) = ⊥
IsNoReply outcome = Unit {0}

-- what came of it: that, or an outcome of `reap` that is no reply
abbrev pub Reaps : Calling → Calling → (most : ℕ) → Result Gone Outcome → Type 0
Reaps old new most (Ok gone) = ReapsTo old new most gone
Reaps old new most (Err outcome) = Called old new commands.Reap outcome × IsNoReply outcome

-- so many at most are gone, whatever came of it
abbrev pub GoAtMost : Calling → Calling → ℕ → Type 0
GoAtMost old new most = length old.kept.own.waits ≤ length new.kept.own.waits + most

-- so under limits, of which it is one call more
pub record ReapsUnder (old new : Limited) (most : ℕ) (reaped : Result Gone Outcome) : Type 0 where
  pub reaps : Reaps old.caller new.caller most reaped
  pub few : GoAtMost old.caller new.caller most
  pub limits : new.limits ≡ old.limits
  pub full : new.full ≡ old.full - 1
