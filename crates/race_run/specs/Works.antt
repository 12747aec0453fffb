-- What came of one of a race's jobs: our own.
use Rattle.std.specs.Prelude.{◌≡◌, ℕ, ◌+◌, ◌<◌, ◌≤◌, List, [], length, slice_index_or, Result, IfOk}
use Rattle.std.specs.declared.alloc.AllocError.{AllocError}
use Rattle.capture_reader.specs.declared.packet.Item.{Item}
use Rattle.flat_list.specs.Script.{Script}
use Rattle.flat_list.specs.declared.command.Command.{Command}
use Rattle.flat_list.specs.declared.header.Header.{Header}
use Rattle.sock_ops.specs.declared.tables.Tables.{Tables}
use Rattle.tickets.specs.Passes.{HasMissed}
use Rattle.tickets.specs.declared.pass.Tickets.{Tickets}
use Rattle.race_run.specs.declared.jobs.Job.{Job}
use Rattle.race_run.specs.Jobs.{IsOver, said_by}
use Rattle.race_run.specs.Lookers.{HasLooked}
use Rattle.race_run.specs.Races.{SectionDone}
use Rattle.race_run.specs.Workers.{part_of}

-- the section was done, and reported on no item
pub record HasRun (header : Header) (n : ℕ) (commands : List Command) (j : Job) : Type 0 where
  pub done : SectionDone header n commands (part_of j.worker) (said_by j)
  pub told : j.told.items ≡ []

-- items were looked up, with so many passes a lookup, until none was left to be drawn, and nothing else was done
pub record HasShared (header : Header) (passes : ℕ) (all : List Item) (j : Job) : Type 0 where
  pub looked : HasLooked header passes all (part_of j.worker) j.told.items
  pub missed : HasMissed j.draws
  pub replies : j.replies.items ≡ []
  pub listings : j.listings.items ≡ []

-- the job of that number was done: the sections come first
pub record IsWorked (script : Script) (passes : ℕ) (all : List Item) (t : Tables) (q : Tickets) (n : ℕ) (j : Job)
    : Type 0 where
  pub over : IsOver t q j
  pub section : n < length script.sections → HasRun script.header (n + 1) (slice_index_or script.sections n []) j
  pub looker : length script.sections ≤ n → HasShared script.header passes all j

-- so was each of so many jobs for which memory did not run out
abbrev pub AllWorked :
    Script → (passes : ℕ) → List Item → Tables → Tickets → ℕ → List (Result Job AllocError) → Type 0
AllWorked script passes all t q count done =
    (i : ℕ) (d : Result Job AllocError) → i < count → IfOk (slice_index_or done i d) (IsWorked script passes all t q i)
