-- What a call does: it carries out one command on the flat list, as a script's section does. Our own.
use Rattle.std.specs.Prelude.{◌≡◌, ◌⊎◌, ℕ, ◌+◌, ◌-◌, ◌<◌, ◌≤◌, ◌^◌, true, length}
use Rattle.flat_list.specs.declared.command.Command.{Command}
use Rattle.flat_list.specs.declared.command.Reply.{Reply}
use Rattle.flat_list.specs.Flat.{Flat}
use Rattle.flat_list.specs.Sections.{labels_of}
use Rattle.flat_list.specs.Step.{step, may_grow}
use Rattle.flat_calls.specs.declared.outcome.Outcome.{Outcome}
use Rattle.flat_calls.specs.declared.outcome.Outcome.TheVariants as outcomes

-- the list, and how many calls it replied to
pub record Numbered : Type 0 where
  pub flat : Flat
  pub calls : ℕ

-- each worker gave no more numbers than there were calls
abbrev pub AreCounted : Flat → ℕ → Type 0
AreCounted flat calls = (m : ℕ) → length (labels_of m flat.sections) ≤ calls

-- there is such a worker, and there is a call left
pub record MayCall (t : Numbered) (worker : ℕ) : Type 0 where
  pub least : 1 ≤ worker
  pub most : worker ≤ 64
  pub left : t.calls < 2 ^ 56 - 2

-- the list was asked, replied so, and is what the command leaves
pub record Steps (old new : Numbered) (worker : ℕ) (command : Command) (reply : Reply) : Type 0 where
  pub may : MayCall old worker
  pub replies : step old.flat worker command ≡ record { flat = new.flat; reply = reply }
  pub counted : new.calls ≡ old.calls + 1

-- What came of the call of a worker: a reply, or nothing was asked, for a cause, and all is as it was. The causes
-- exclude each other, so it is fixed which of them comes; want of memory alone may come or not where a reply would.
abbrev pub Called : Numbered → Numbered → ℕ → Command → Outcome → Type 0
Called old new worker command (outcomes.Replied reply) = Steps old new worker command reply
Called old new worker command outcomes.NoTables = ⊥
Called old new worker command outcomes.Busy = ⊥
Called old new worker command outcomes.FullLately = ⊥
Called old new worker command outcomes.NoWorker = (new ≡ old) × ((worker ≡ 0) ⊎ (64 < worker))
Called old new worker command outcomes.NoNumber =
    (new ≡ old) × (1 ≤ worker) × (worker ≤ 64) × (2 ^ 56 - 2 ≤ old.calls)
Called old new worker command outcomes.NoMemory = (new ≡ old) × MayCall old worker × (may_grow command ≡ true)
