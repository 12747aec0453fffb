-- What a caller of shared tables is between two calls, and what a call does: one command of a section. Our own.
--
-- In two parts: what a caller is between two calls, up to `IsCalling`; and what a call does, from `MayCall` to
-- `Called`, which is to be read from its end.
use Rattle.std.specs.Prelude.{◌≡◌, ◌⊎◌, ℕ, ◌+◌, ◌-◌, ◌*◌, ◌<◌, ◌≤◌, ◌^◌, length}
use Rattle.list_words.specs.Lists.{Each}
use Rattle.chain_book.specs.declared.book.Change.{Change}
use Rattle.sock_ops.specs.Sides.{changes_by}
use Rattle.flat_list.specs.declared.command.Command.{Command}
use Rattle.flat_list.specs.declared.command.Command.TheVariants as commands
use Rattle.flat_list.specs.declared.command.Reply.{Reply}
use Rattle.flat_calls.specs.declared.outcome.Outcome.{Outcome}
use Rattle.flat_calls.specs.declared.outcome.Outcome.TheVariants as outcomes
use Rattle.sock_ops.specs.declared.tables.Tables.{Tables}
use Rattle.sock_ops.specs.declared.tables.Worker.{Worker}
use Rattle.sock_ops.specs.Stands.{MayEnter, turned, chained}
use Rattle.table_rule.specs.Passes.{known, drawn_by, seen_by}
use Rattle.section_machine.specs.LeftOff.{IsLeftOff}
use Rattle.section_machine.specs.Sections.{Did, Kept, given_by}
use Rattle.section_machine.specs.Sections as marks
use Rattle.section_machine.specs.Standing.{IsSection}
use Rattle.shared_calls.specs.Numbers.{IsNumbered}

-- the tables, what its section keeps, its worker, and the tables' tag, by which it is known where it belongs
pub record Calling : Type 0 where
  pub tables : Tables
  pub kept : Kept
  pub worker : Worker
  pub tag : ℕ

abbrev pub calling : Tables → Kept → Worker → ℕ → Calling
calling t k w tag = record { tables = t; kept = k; worker = w; tag = tag }

-- sockets to come get that mark
abbrev pub with_mark : Calling → ℕ → Calling
with_mark c mark = record c { kept = marks.with_mark c.kept mark }

-- what its worker knows of the clock
abbrev pub clock_of : Calling → ℕ
clock_of c = seen_by c.worker.chain.pass

-- each change of a chain that its calls made has ended below that number of the clock
abbrev pub HadEnded : Calling → ℕ → Type 0
HadEnded c number = Each (λ (x : Change). x.end < number) (changes_by (chained c.tables c.worker))

-- its section is the worker's, and has its numbers as labels and room for one more; the worker has a part of the clock,
-- and knows it to be above what its changes drew
pub record IsCalling (c : Calling) : Type 0 where
  pub section : IsSection c.tables c.kept c.worker
  pub numbered : IsNumbered c.kept.own
  pub few : length c.kept.own.labels + 1 < 2 ^ 56
  pub part : 0 < (known c.worker.chain.pass).slot.parts
  pub ended : HadEnded c (clock_of c)

-- how many entries, and how many numbers of the clock, the command leaves to those that end sockets: these four go on
-- until the last of them
abbrev pub kept_back : Command → ℕ
kept_back (commands.Close label) = 0
kept_back (commands.Drop label) = 0
kept_back (commands.At moment) = 0
kept_back commands.Reap = 0
kept_back command = 2 ^ 32

-- its worker can make entries for the command, for the reaping of its TIME_WAITs, and those that are kept back
abbrev pub HasEntries : Calling → Command → Type 0
HasEntries c command = MayEnter (65540 + length c.kept.own.waits + kept_back command) c.worker

-- its worker has numbers of the clock for the command, for the reaping of its TIME_WAITs, and those that are kept back
abbrev pub HasStamps : Calling → Command → Type 0
HasStamps c command = drawn_by c.worker.chain.pass + 7 + 2 * length c.kept.own.waits + kept_back command ≤ 2 ^ 48

-- it can carry a command more out, and has a number for the socket that the command makes
pub record MayCall (c : Calling) (command : Command) : Type 0 where
  pub entries : HasEntries c command
  pub stamps : HasStamps c command
  pub number : 0 < length (given_by command) → length c.kept.own.labels < 2 ^ 56 - 2

-- one command was tried, at the same tables and under the same header
pub record Tried (old new : Calling) (command : Command) : Type 0 where
  pub may : MayCall old command
  pub tables : new.tables ≡ old.tables
  pub tag : new.tag ≡ old.tag
  pub header : new.kept.header ≡ old.kept.header
  pub number : new.kept.own.number ≡ old.kept.own.number

-- the command's plan went to that reply, by what this caller asked and changed, whoever else was there
pub record Carried (old new : Calling) (command : Command) (reply : Reply) : Type 0 where
  pub tried : Tried old new command
  pub did : Did old.kept.header old.kept.own command (turned old.worker) (turned new.worker)
      (chained old.tables old.worker) (chained old.tables new.worker) new.kept.own reply

-- it was left off
pub record Left (old new : Calling) (command : Command) : Type 0 where
  pub tried : Tried old new command
  pub left : IsLeftOff old.tables old.kept command new.kept old.worker new.worker

-- it has made as many entries as the command leaves, drawn as many numbers, or made as many sockets as it may
abbrev pub HasNoNumber : Calling → Command → Type 0
HasNoNumber c command =
    (HasEntries c command → ⊥) ⊎ (HasStamps c command → ⊥)
    ⊎ ((0 < length (given_by command)) × (2 ^ 56 - 2 ≤ length c.kept.own.labels))

-- nobody was waited for in vain
abbrev pub IsNoWait : Outcome → Type 0
IsNoWait outcomes.Busy = ⊥
IsNoWait outcome = Unit {0}

-- what came of a call
abbrev pub Called : Calling → Calling → Command → Outcome → Type 0
Called old new command (outcomes.Replied reply) = Carried old new command reply
Called old new command outcomes.NoMemory = Left old new command
Called old new command outcomes.Busy = Left old new command
Called old new command outcomes.NoNumber = (new ≡ old) × HasNoNumber old command
Called old new command outcomes.NoTables = ⊥
Called old new command outcomes.NoWorker = ⊥
Called old new command outcomes.FullLately = ⊥
