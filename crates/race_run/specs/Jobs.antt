-- What the jobs of a race are before they run and after: our own.
--
-- In two parts: before, up to `AllReady`, and after, from `IsOver` on.
use Rattle.std.specs.Prelude.{◌≡◌, ℕ, ◌+◌, ◌-◌, ◌<◌, List, [], ◌∷◌, length, slice_index_or, Result, Ok, Err, IfOk, alloc_error}
use Rattle.std.specs.List.{flat_map, range_with_len}
use Rattle.std.specs.declared.alloc.AllocError.{AllocError}
use Rattle.list_words.specs.Lists.{SameItems}
use Rattle.turn_table.specs.Passes as words
use Rattle.flat_list.specs.declared.header.Header.{Header}
use Rattle.sock_ops.specs.declared.tables.Tables.{Tables}
use Rattle.sock_ops.specs.declared.tables.Worker.{Worker}
use Rattle.tickets.specs.declared.pass.Tickets.{Tickets}
use Rattle.race_run.specs.declared.jobs.Job.{Job}
use Rattle.race_run.specs.declared.jobs.Outcome.{Outcome}
use Rattle.race_run.specs.Joins.{Part, Joined}
use Rattle.race_run.specs.Said.{Said, said_as}
use Rattle.race_run.specs.Shares.{HasDrawnNothing, HasTold}
use Rattle.race_run.specs.Workers.{IsFresh, part_of}
use Rattle.sock_ops.specs.Tables.{IsAtRest}

-- the job of that number, which has done nothing
pub record IsReady (header : Header) (t : Tables) (q : Tickets) (n : ℕ) (j : Job) : Type 0 where
  pub fresh : IsFresh header t (n + 1) j.worker
  pub draws : HasDrawnNothing q j.draws
  pub number : j.number ≡ n
  pub replies : j.replies.items ≡ []
  pub listings : j.listings.items ≡ []
  pub told : j.told.items ≡ []

-- what a section's job said
abbrev pub said_by : Job → Said
said_by j = said_as j.replies.items j.listings.items

-- each job is that of its place
abbrev pub AllReady : Header → Tables → Tickets → List Job → Type 0
AllReady header t q jobs = (i : ℕ) (x : Job) → i < length jobs → x ≡ slice_index_or jobs i x → IsReady header t q i x

-- a job that has ended: its worker and its pass may be taken in
pub record IsOver (t : Tables) (q : Tickets) (j : Job) : Type 0 where
  pub rest : IsAtRest t j.worker
  pub turn_part : words.parts j.worker.turns ≡ 1
  pub chain_part : (part_of j.worker).chain.slot.parts ≡ 1
  pub draws : HasTold q j.draws j.told.items

abbrev pub AllOver : Tables → Tickets → List (Result Job AllocError) → Type 0
AllOver t q done = (i : ℕ) (d : Result Job AllocError) → i < length done → IfOk (slice_index_or done i d) (IsOver t q)

-- it has all parts of both
pub record HasAllParts (w : Worker) : Type 0 where
  pub turn_parts : words.parts w.turns ≡ 16384
  pub chain_parts : (part_of w).chain.slot.parts ≡ 16384

-- what the worker of a job did, or else that
abbrev pub part_or : Part → Result Job AllocError → Part
part_or other (Ok j) = part_of j.worker
part_or other (Err e) = other

-- of the worker of that number, where the first is 1
abbrev pub part_in : Part → List (Result Job AllocError) → ℕ → Part
part_in other done m = part_or other (slice_index_or done (m - 1) (Err alloc_error))

-- of so many workers those behind the first n were joined
pub record IsGathered (part : ℕ → Part) (n count : ℕ) (p : Part) : Type 0 where
  pub order : List ℕ
  pub once : SameItems order (range_with_len (n + 1) (count - n))
  pub joined : Joined part order p.turns p.chain

abbrev pub outcome_of : Result Job AllocError → List Outcome
outcome_of (Ok j) = record { replies = j.replies; listings = j.listings; told = j.told } ∷ []
outcome_of (Err e) = []

abbrev pub outcomes_in : List (Result Job AllocError) → List Outcome
outcomes_in done = flat_map outcome_of done
