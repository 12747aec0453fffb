-- What a worker tells of itself and of its sockets, and what a looker tells of many packets. Our own.
use Rattle.std.specs.Prelude.{◌≡◌, ◌≢◌, ◌⊎◌, ℕ, ℤ, pos, ◌-◌, ◌^◌, List, length, Option, None, Some}
use Rattle.flat_calls.specs.declared.item.Item.{Item}
use Rattle.section_machine.specs.Waits.{IsNextOver, NeverOver}
use Rattle.shared_calls.specs.Asked as asked
use Rattle.shared_calls.specs.Batches.{LooksMany}
use Rattle.shared_calls.specs.Callings.{Calling, HadEnded, clock_of}
use Rattle.shared_calls.specs.Lookings.{Looking}
use Rattle.shared_calls.specs.declared.asked.Left.{Left}
use Rattle.shared_calls.specs.declared.batch.Asking.{Asking}
use Rattle.shared_calls.specs.declared.batch.Sighting.{Sighting}
use Rattle.shared_calls.specs.declared.limited.Limited.{Limited}
use Rattle.inet_c.specs.declared.errno.TheConstants.{EBADF, EINVAL}

-- no socket
abbrev pub no_item : Item
no_item =
    record { kind = 0; worker = 0; socket = 0; addr = 0; peer_addr = 0; port = 0; peer_port = 0; dev = 0; net = 0 }

-- that socket, or none, by EBADF
abbrev pub TellsItem : Option Item → Item → (errno : ℤ) → Type 0
TellsItem None item errno = (item ≡ no_item) × (errno ≡ EBADF)
TellsItem (Some found) item errno = (item ≡ found) × (errno ≡ pos 0)

-- a worker tells the open socket of a number; a handle that holds none tells none
abbrev pub TellsSocket : Option Limited → (number : ℕ) → Item → (errno : ℤ) → Type 0
TellsSocket None number item errno = TellsItem None item errno
TellsSocket (Some worker) number item errno =
    TellsItem (asked.item_in worker.caller.kept.own number) item errno

-- nothing is left
abbrev pub nothing_left : Left
nothing_left = record { sockets = 0; entries = 0; stamps = 0; waits = 0 }

-- a worker tells what is left to it; a handle that holds none says so by EBADF
abbrev pub TellsLeft : Option Limited → Left → (errno : ℤ) → Type 0
TellsLeft None left errno = (left ≡ nothing_left) × (errno ≡ EBADF)
TellsLeft (Some worker) left errno = (left ≡ asked.left_of worker.caller) × (errno ≡ pos 0)

-- the least moment at which a TIME_WAIT of the caller's has lasted its minute, or 2^64 - 1 where there is none
abbrev pub IsNextOverOrNever : Calling → (moment : ℕ) → Type 0
IsNextOverOrNever c moment =
    IsNextOver c.kept.own.waits moment ⊎ ((moment ≡ 2 ^ 64 - 1) × NeverOver c.kept.own.waits)

-- a worker tells it; a handle that holds none says so by EBADF
abbrev pub TellsNextOver : Option Limited → (moment : ℕ) → (errno : ℤ) → Type 0
TellsNextOver None moment errno = (moment ≡ 2 ^ 64 - 1) × (errno ≡ EBADF)
TellsNextOver (Some worker) moment errno = IsNextOverOrNever worker.caller moment × (errno ≡ pos 0)

-- a worker tells what it knows of the clock, below which each of its changes has ended
abbrev pub TellsClock : Option Limited → (clock : ℕ) → (errno : ℤ) → Type 0
TellsClock None clock errno = (clock ≡ 0) × (errno ≡ EBADF)
TellsClock (Some worker) clock errno =
    (clock ≡ clock_of worker.caller) × HadEnded worker.caller clock × (errno ≡ pos 0)

-- A looker looked each packet up, in 16 passes through a chain at most, and told it at its place; where there aren't as
-- many places as packets it did nothing, and a handle that holds none says so by EBADF.
abbrev pub LooksAll
    : Option Looking → Option Looking → List Asking → (after : ℕ) → List Sighting → List Sighting → (errno : ℤ) → Type 0
LooksAll None new packets after before sights errno = (new ≡ None) × (sights ≡ before) × (errno ≡ EBADF)
LooksAll (Some old) None packets after before sights errno = ⊥
LooksAll (Some old) (Some new) packets after before sights errno =
    ((length packets ≡ length before) × LooksMany 16 after old packets sights new × (errno ≡ pos 0))
    ⊎ ((length packets ≢ length before) × (new ≡ old) × (sights ≡ before) × (errno ≡ EINVAL))
