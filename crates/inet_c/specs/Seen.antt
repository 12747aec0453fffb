-- What a lookup through a handle reports. Our own.
use Rattle.std.specs.Prelude.{◌≡◌, ℕ, ℤ, pos, ◌/◌, ◌%◌, ◌^◌, Option, None, Some}
use Rattle.sock_card.specs.declared.card.Packet.{Packet}
use Rattle.chain_book.specs.declared.book.PacketAnswer.{PacketAnswer}
use Rattle.chain_book.specs.declared.book.PacketAnswer.TheVariants as answers
use Rattle.chain_book.specs.declared.book.PacketLook.{PacketLook}
use Rattle.flat_calls.specs.Calls.{Numbered}
use Rattle.flat_calls.specs.Sights.{Finds, kind_of}
use Rattle.flat_calls.specs.declared.sight.Sight.{Sight}
use Rattle.shared_calls.specs.Lookings.{Looking, LooksAfter}
use Rattle.inet_c.specs.declared.errno.TheConstants.{EAGAIN, EBADF}
use Rattle.inet_c.specs.declared.seen.InetSight.{InetSight}

-- no socket
abbrev pub nobody : InetSight
nobody = record { kind = 0; worker = 0; socket = 0; mark = 0 }

-- the sight as numbers: all 0 where no socket takes the packet; a list's sockets have no marks
abbrev pub told : Option Sight → InetSight
told None = nobody
told (Some s) = record { kind = s.kind; worker = s.worker; socket = s.socket; mark = 0 }

-- the socket that a looker found, by its name: its worker's number above, and its own in the lower 56 bits; and its mark
abbrev pub told_by : PacketAnswer → InetSight
told_by (answers.Found card) =
    record { kind = kind_of card.kind; worker = card.name / 2 ^ 56; socket = card.name % 2 ^ 56; mark = card.mark }
told_by _ = nobody

-- EAGAIN where others changed the chains at each pass
abbrev pub errno_by : PacketAnswer → ℤ
errno_by (answers.Again bucket stop) = EAGAIN
errno_by _ = pos 0

-- so of a lookup; one that began too early says nothing, by EAGAIN
abbrev pub told_of : Option PacketLook → InetSight
told_of None = nobody
told_of (Some look) = told_by look.end

abbrev pub errno_of : Option PacketLook → ℤ
errno_of None = EAGAIN
errno_of (Some look) = errno_by look.end

-- the list finds so
pub record FindsAs (tables : Numbered) (packet : Packet) (sight : InetSight) : Type 0 where
  pub found : Option Sight
  pub finds : Finds tables packet found
  pub sight_is : sight ≡ told found

-- a list answers so; a handle that holds none finds nothing, and says so by EBADF
abbrev pub ListLooks : Option Numbered → Packet → InetSight → (errno : ℤ) → Type 0
ListLooks None packet sight errno = (sight ≡ nobody) × (errno ≡ EBADF)
ListLooks (Some tables) packet sight errno = FindsAs tables packet sight × (errno ≡ pos 0)

-- a looker looked so, in 16 passes through a chain at most, once the clock was at that number
pub record LooksAs (old new : Looking) (packet : Packet) (after : ℕ) (sight : InetSight) (errno : ℤ) : Type 0 where
  pub found : Option PacketLook
  pub looks : LooksAfter old new packet 16 after found
  pub sight_is : sight ≡ told_of found
  pub errno_is : errno ≡ errno_of found

-- a looker answers so; a handle that holds none finds nothing, and says so by EBADF
abbrev pub LookerLooks : Option Looking → Option Looking → Packet → (after : ℕ) → InetSight → (errno : ℤ) → Type 0
LookerLooks None new packet after sight errno = (new ≡ None) × (sight ≡ nobody) × (errno ≡ EBADF)
LookerLooks (Some old) None packet after sight errno = ⊥
LookerLooks (Some old) (Some new) packet after sight errno = LooksAs old new packet after sight errno
