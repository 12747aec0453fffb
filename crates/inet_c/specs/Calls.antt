-- What a call through a handle does. Our own.
use Rattle.std.specs.Prelude.{◌≡◌, ℕ, ◌+◌, Option, None, Some, length}
use Rattle.std.specs.Option.{option_map}
use Rattle.flat_list.specs.declared.command.Command.{Command}
use Rattle.flat_calls.specs.declared.outcome.Outcome.{Outcome}
use Rattle.flat_calls.specs.declared.outcome.Outcome.TheVariants as outcomes
use Rattle.flat_calls.specs.Calls as flat
use Rattle.flat_calls.specs.Calls.{Numbered}
use Rattle.shared_calls.specs.Limits as shared
use Rattle.shared_calls.specs.declared.limited.Limited.{Limited}

-- a list carried out the command of that worker; a handle that holds none says so, and stays so
abbrev pub ListCalled : Option Numbered → Option Numbered → (worker : ℕ) → Command → Outcome → Type 0
ListCalled None new worker command outcome = (new ≡ None) × (outcome ≡ outcomes.NoTables)
ListCalled (Some old) None worker command outcome = ⊥
ListCalled (Some old) (Some new) worker command outcome = flat.Called old new worker command outcome

-- so a worker of shared tables, under its limits
abbrev pub WorkerCalled : Option Limited → Option Limited → Command → Outcome → Type 0
WorkerCalled None new command outcome = (new ≡ None) × (outcome ≡ outcomes.NoTables)
WorkerCalled (Some old) None command outcome = ⊥
WorkerCalled (Some old) (Some new) command outcome = shared.Called old new command outcome

-- so one that gives the sockets to come that mark first
abbrev pub WorkerMakes : Option Limited → Option Limited → (mark : ℕ) → Command → Outcome → Type 0
WorkerMakes old new mark command outcome =
    WorkerCalled (option_map (λ (worker : Limited). shared.with_mark worker mark) old) new command outcome

-- the number of a list's next socket, or 0 where the handle holds none
abbrev pub next_of_list : Option Numbered → ℕ
next_of_list None = 0
next_of_list (Some list) = list.calls

-- and of a worker's
abbrev pub next_of_worker : Option Limited → ℕ
next_of_worker None = 0
next_of_worker (Some worker) = length worker.caller.kept.own.labels + 1
