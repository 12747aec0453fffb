-- What a command of a section comes to at the tables, with what it takes of the worker's numbers: our own.
--
-- To be read from the beginning. Contracts of public calls cite `HasEnough`, `MayGoOn` and `Spends`; the rest is of
-- private functions.
use Rattle.std.specs.Prelude.{◌≡◌, ℕ, ◌+◌, ◌*◌, ◌≤◌, Bool, true, false, List, [], ◌∷◌, ◌++◌, length}
use Rattle.turn_table.specs.Passes as words
use Rattle.bind_buckets.specs.Turned.{View, Gave}
use Rattle.flat_list.specs.declared.command.Reply.{Reply}
use Rattle.flat_list.specs.declared.command.Reply.TheVariants as replies
use Rattle.sock_ops.specs.Made.{Does}
use Rattle.sock_ops.specs.Sides.{Side}
use Rattle.race_record.specs.Deeds.{Deed, entries_in}
use Rattle.race_record.specs.Goes.{Goes}
use Rattle.table_model.specs.declared.operation.OpEnd.{OpEnd}
use Rattle.table_model.specs.declared.operation.OpEnd.TheVariants as errors
use Rattle.table_model.specs.Asking.{Asking, ends}
use Rattle.table_model.specs.Own.{Mine}
use Rattle.table_model.specs.Operations as plans
use Rattle.table_model.specs.Commands.{Replied, answers}
use Rattle.sock_ops.specs.declared.tables.Tables.{Tables}
use Rattle.sock_ops.specs.declared.tables.Worker.{Worker}
use Rattle.sock_ops.specs.Goes.{Went}
use Rattle.sock_ops.specs.Stands.{MayEnter, MayDraw, turned, chained}
use Rattle.section_machine.specs.Sections.{Kept}
use Rattle.section_machine.specs.Standing.{IsSection}

-- The plan went by these deeds to that reply, and the section is the worker's still, with what it keeps then.
pub record Carries (t : Tables) (old : Kept) (plan : Asking Replied) (new : Kept) (w u : Worker)
    (reply : Reply) : Type 0
  where
    pub deeds : List Deed
    pub goes : Goes plan deeds (answers new.own reply)
    pub gave : Gave (turned w) (turned u) (entries_in old.header.shape.bind deeds)
    pub does : Does deeds (chained t w) (chained t u)
    pub section : IsSection t new u

-- Its worker can enter and draw what a command takes, and what the section's TIME_WAITs will take when they are reaped.
pub record HasEnough (k : Kept) (w : Worker) : Type 0 where
  pub enters : MayEnter (65540 + length k.own.waits) w
  pub draws : MayDraw (6 + 2 * length k.own.waits) w

-- it may carry out so many commands more
pub record MayCarry (commands : ℕ) (w : Worker) : Type 0 where
  pub enters : MayEnter (65540 * commands) w
  pub draws : MayDraw (6 * commands) w

-- and so, where a section's TIME_WAITs are to be reaped yet
pub record MayGoOn (commands : ℕ) (k : Kept) (w : Worker) : Type 0 where
  pub enters : MayEnter (65540 * commands + length k.own.waits) w
  pub draws : MayDraw (6 * commands + 2 * length k.own.waits) w

-- a command takes no more than that, and leaves what the TIME_WAITs will take
pub record Spends (old new : Kept) (w u : Worker) : Type 0 where
  pub entered : words.draws u.turns + length new.own.waits ≤ words.draws w.turns + length old.own.waits + 65540
  pub drawn : (more : ℕ) → MayDraw (more + 6 + 2 * length old.own.waits) w → MayDraw (more + 2 * length new.own.waits) u

abbrev pub is_left_off : OpEnd → Bool
is_left_off (errors.LeftOff cause) = true
is_left_off _ = false

-- that end, by which nothing was left off
pub record Keeps (end given : OpEnd) : Type 0 where
  pub same : given ≡ end
  pub told : is_left_off end ≡ false

-- how a socket's end is called, and the TIME_WAITs then
abbrev pub close_answer : plans.Closed → Reply
close_answer plans.gone = replies.Ok
close_answer (plans.waiting w) = replies.TimeWait
close_answer (plans.no_slot owned held) = replies.NoSlot owned held

abbrev pub waits_by : List Mine → plans.Closed → List Mine
waits_by waits (plans.waiting w) = waits ++ w ∷ []
waits_by waits closed = waits

-- a socket's plan went on to its end, and left its TIME_WAIT with the others
pub record Ends (count : ℕ) (plan : Asking plans.Closed) (v w : View) (c d : Side) (before after : List Mine)
    (reply : Reply) : Type 0
  where
    pub closed : plans.Closed
    pub went : Went count plan v w c d (ends closed)
    pub left : after ≡ waits_by before closed
    pub called : reply ≡ close_answer closed
