-- The sockets in TIME_WAIT that a section left, and what `close` leaves of a socket: inet_twsk_hashdance_schedule of
-- net/ipv4/inet_timewait_sock.c. That they are kept in the order of closing is our own.
use Rattle.std.specs.Prelude.{◌≡◌, ℕ, ◌+◌, ◌<◌, ◌≤◌, ◌^◌, false, List, [], ◌∷◌, Option, Some, None, if◌then◌else◌}
use Rattle.list_words.specs.Lists.{Each, Pairs}
use Rattle.table_model.specs.Own.{Mine, is_over}
use Rattle.table_model.specs.Operations.{Closed, waiting}

-- stamps never fall
abbrev pub AreInOrder : List Mine → Type 0
AreInOrder waits = Pairs (λ (a b : Mine). a.extra ≤ b.extra) waits

-- none was closed after that moment
abbrev pub AreBefore : ℕ → List Mine → Type 0
AreBefore moment waits = Each (λ (w : Mine). w.extra ≤ moment) waits

-- at that moment none has lasted its minute
abbrev pub NoneOver : List Mine → ℕ → Type 0
NoneOver waits moment = Each (λ (w : Mine). is_over moment w ≡ false) waits

-- at that moment one has lasted its minute, and at none before it
pub record IsNextOver (waits : List Mine) (moment : ℕ) : Type 0 where
  pub one : NoneOver waits moment → ⊥
  pub first : (before : ℕ) → before < moment → NoneOver waits before

-- at no moment that there is
abbrev pub NeverOver : List Mine → Type 0
NeverOver waits = (moment : ℕ) → moment < 2 ^ 32 → NoneOver waits moment

-- the first, if it has lasted its minute at that moment
abbrev pub first_over : ℕ → List Mine → Option Mine
first_over moment [] = None
first_over moment (w ∷ rest) = if is_over moment w then Some w else None

-- with so many kept and room for so many there is room for the TIME_WAIT that a socket left, if it left one
abbrev pub HasRoomFor : Closed → ℕ → ℕ → Type 0
HasRoomFor (waiting w) kept room = kept + 1 ≤ room
HasRoomFor closed kept room = Unit {0}
