-- A caller under limits: our own.
--
-- To be read from `Called` upwards.
use Rattle.std.specs.Prelude.{◌≡◌, ℕ, ◌-◌, Bool, true, false, ◌&&◌, not, nat_lt, length, if◌then◌else◌}
use Rattle.flat_calls.specs.declared.outcome.Outcome.{Outcome}
use Rattle.flat_calls.specs.declared.outcome.Outcome.TheVariants as outcomes
use Rattle.flat_list.specs.declared.command.Command.{Command}
use Rattle.flat_list.specs.declared.command.Command.TheVariants as commands
use Rattle.flat_list.specs.declared.command.Reply.TheVariants as replies
use Rattle.sock_card.specs.declared.owner.State.TheVariants as states
use Rattle.chain_book.specs.declared.shape.Shape.{Shape}
use Rattle.chain_book.specs.Chains.{full}
use Rattle.table_model.specs.Operations.{Closed, close_hashed, drop, no_slot}
use Rattle.table_model.specs.Own.{Mine}
use Rattle.shared_calls.specs.Callings as callings
use Rattle.shared_calls.specs.Callings.{Calling}
use Rattle.shared_calls.specs.declared.limited.Limited.{Limited}
use Rattle.shared_calls.specs.declared.limited.Limits.{Limits}

-- a caller under limits, before its first call
abbrev pub limited : Calling → Limits → Limited
limited c limits = record { caller = c; limits = limits; full = 0 }

-- sockets to come get that mark
abbrev pub with_mark : Limited → ℕ → Limited
with_mark l mark = record l { caller = callings.with_mark l.caller mark }

-- the command takes a slot, and is refused where none is free
abbrev pub takes_slot : Command → Bool
takes_slot (commands.Listen label) = true
takes_slot (commands.Connect label from to) = true
takes_slot (commands.Accept listener label from at) = true
takes_slot (commands.Syn listener label from at) = true
takes_slot (commands.Ack request label) = true
takes_slot _ = false

-- a connected socket whose `close` finds no slot free for its TIME_WAIT is closed as `drop` closes it
abbrev pub DropsWhereFull : Type 0
DropsWhereFull =
    (shape : Shape) (seed : ℕ) (m w : Mine) (owned held : ℕ) → m.owner.state ≡ states.Full
    → close_hashed shape seed m w (full owned held) ≡ drop m (no_slot owned held)

-- there is a limit, and the caller has as many TIME_WAITs that it hasn't reaped
abbrev pub has_most_waits : Limited → Bool
has_most_waits l =
    nat_lt 0 l.limits.most_waits && not (nat_lt (length l.caller.kept.own.waits) l.limits.most_waits)

-- What is carried out of a command. Where there are as many TIME_WAITs as there may be, `close` does what it does where
-- no slot is free for one, which is what `drop` does.
abbrev pub carried_as : Limited → Command → Command
carried_as l (commands.Close label) = if has_most_waits l then commands.Drop label else commands.Close label
carried_as l command = command

-- it is said that no slot was free lately, and the caller looks for none
abbrev pub is_spared : Limited → Command → Bool
is_spared l command = nat_lt 0 l.full && takes_slot command

-- for how many calls more the caller looks for no slot, after a call that came to that
abbrev pub full_after : Limited → Outcome → ℕ
full_after l (outcomes.Replied (replies.Enfile owned held)) = l.limits.full_for
full_after l outcome = l.full - 1

-- A call looked for a slot, if it takes one, and was carried out or not.
pub record Carried (old new : Limited) (command : Command) (outcome : Outcome) : Type 0 where
  pub looks : is_spared old command ≡ false
  pub called : callings.Called old.caller new.caller (carried_as old command) outcome
  pub limits : new.limits ≡ old.limits
  pub full : new.full ≡ full_after old outcome

-- it did not look, and nothing has changed, but that it was one call more
pub record Spared (old new : Limited) (command : Command) : Type 0 where
  pub spared : is_spared old command ≡ true
  pub counted : new ≡ record old { full = old.full - 1 }

-- what came of a call under limits
abbrev pub Called : Limited → Limited → Command → Outcome → Type 0
Called old new command outcomes.FullLately = Spared old new command
Called old new command outcome = Carried old new command outcome
