-- What a worker reports of its open sockets. Our own.
use Rattle.std.specs.Prelude.{◌≡◌, ◌⊎◌, ℕ, ℤ, pos, Option, None, Some}
use Rattle.section_machine.specs.Opened.{IsNextOpen, NoneAbove}
use Rattle.shared_calls.specs.Callings.{Calling}
use Rattle.shared_calls.specs.declared.limited.Limited.{Limited}
use Rattle.inet_c.specs.declared.errno.TheConstants.{EBADF}

-- the lowest number above that one which names an open socket; 0 where none does
abbrev pub IsNextOr0 : Calling → (after next : ℕ) → Type 0
IsNextOr0 c after next = IsNextOpen c.kept.own after next ⊎ ((next ≡ 0) × NoneAbove c.kept.own after)

-- a worker says which is its next open socket; a handle that holds none says none, by EBADF
abbrev pub TellsOpen : Option Limited → (after next : ℕ) → (errno : ℤ) → Type 0
TellsOpen None after next errno = (next ≡ 0) × (errno ≡ EBADF)
TellsOpen (Some worker) after next errno = IsNextOr0 worker.caller after next × (errno ≡ pos 0)
