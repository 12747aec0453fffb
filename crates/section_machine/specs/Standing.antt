-- What a section has at tables that threads share, by its worker: our own.
--
-- To be read from the end: `IsSection` is what contracts cite, and each stands on those above it.
use Rattle.std.specs.Prelude.{◌≡◌, ◌≢◌, ℕ, ◌/◌, ◌^◌, ◌<◌, ◌≤◌, ◌==◌, Bool, true, false, List}
use Rattle.list_words.specs.Lists.{Each}
use Rattle.sock_card.specs.declared.owner.State.{State}
use Rattle.sock_card.specs.declared.owner.State.TheVariants as states
use Rattle.sock_card.specs.declared.card.Kind.TheVariants as kinds
use Rattle.turn_table.specs.declared.note.Placed.{Placed}
use Rattle.turn_table.specs.Passes as words
use Rattle.bind_buckets.specs.declared.request.Entry.{Entry}
use Rattle.bind_buckets.specs.OwnTold.{KeepsOpen, is_told}
use Rattle.bind_buckets.specs.Turned.{View}
use Rattle.sock_ops.specs.Sides.{Side}
use Rattle.flat_list.specs.declared.header.Header.{Header}
use Rattle.table_model.specs.Own.{Own, Mine, next_name}
use Rattle.sock_ops.specs.declared.tables.Tables.{Tables}
use Rattle.sock_ops.specs.declared.tables.Worker.{Worker}
use Rattle.sock_ops.specs.Stands.{IsReady, IsAway, IsOwner, IsHashed, buckets_of, turned, chained}
use Rattle.section_machine.specs.Sections.{Kept}

-- Of a section, what it rests on that its sockets stand: its number, the name that its next label will stand for, and
-- the sockets
pub record Roll : Type 0 where
  pub number : ℕ
  pub next : ℕ
  pub sockets : List Mine

abbrev pub roll_of : Own → Roll
roll_of own = record { number = own.number; next = next_name own; sockets = own.sockets }

-- a label of the section stood for that name
pub record IsGiven (r : Roll) (name : ℕ) : Type 0 where
  pub section : name / 2 ^ 56 ≡ r.number
  pub before : name < r.next

-- no label of this section, or of a later one, has stood for it so far
abbrev pub IsUngiven : Roll → ℕ → Type 0
IsUngiven r name = r.next ≤ name

-- the worker runs this section alone, or all sections
abbrev pub Tells : ℕ → ℕ → Type 0
Tells caller number = caller ≢ 0 → number ≡ caller

-- the socket is that of the name, or listens, or its own name is none of these
abbrev pub IsApart : (ℕ → Bool) → ℕ → Mine → Type 0
IsApart mine name m = m.owner.state ≢ states.Listening → m.owner.name ≢ name → mine m.owner.name ≡ false

-- The names on which it rests what bind buckets know of the socket of that name: its own, and that of a listener by
-- which it came. Labels stood for all of them; another of them is no open socket's, unless that listens; and nothing
-- that the worker asked put one of them into TIME_WAIT.
pub record Family (r : Roll) (name : ℕ) (v : View) : Type 0 where
  pub mine : ℕ → Bool
  pub it : mine name ≡ true
  pub given : (n : ℕ) → mine n ≡ true → IsGiven r n
  pub apart : Each (IsApart mine name) r.sockets
  pub keeps : Each (λ (x : Placed Entry). KeepsOpen mine x.note.entry.request) v.mine

-- a socket stands as its state says; of a request no bind bucket knows
abbrev pub StandsIn : State → Tables → Mine → View → Side → Type 0
StandsIn states.Unbound t m v c = IsAway m.owner.name v
StandsIn states.Bound t m v c = IsOwner t m.owner v
StandsIn states.Listening t m v c = IsOwner t m.owner v × IsHashed kinds.Listen m c
StandsIn states.Full t m v c = IsOwner t m.owner v × IsHashed kinds.Full m c
StandsIn states.Request t m v c = IsHashed kinds.Request m c
StandsIn states.TimeWait t m v c = ⊥

-- an open socket of the section
pub record IsOpen (t : Tables) (r : Roll) (v : View) (c : Side) (m : Mine) : Type 0 where
  pub given : IsGiven r m.owner.name
  pub family : Family r m.owner.name v
  pub stands : StandsIn m.owner.state t m v c

abbrev pub AllOpen : Tables → Roll → View → Side → Type 0
AllOpen t r v c = Each (IsOpen t r v c) r.sockets

-- the worker asked no bucket about an owner of that name
abbrev pub IsUnspoken : View → ℕ → Type 0
IsUnspoken v name = Each (λ (x : Placed Entry). is_told (λ n. n == name) x.note.entry ≡ false) v.mine

-- the tables have the header's shape and seed
pub record AreOf (header : Header) (t : Tables) : Type 0 where
  pub shape : t.chains.layout.shape ≡ header.shape
  pub seed : t.chains.layout.seed ≡ header.seed
  pub buckets : buckets_of t ≡ header.shape.bind

-- The section of these tables, between two commands of its worker: its sockets stand, and no bucket was asked about a
-- name that no label of it, or of a later section, has stood for.
pub record IsSection (t : Tables) (k : Kept) (w : Worker) : Type 0 where
  pub tables : AreOf k.header t
  pub ready : IsReady t w
  pub number : k.own.number ≤ 255
  pub tells : Tells (words.caller w.turns) k.own.number
  pub stand : AllOpen t (roll_of k.own) (turned w) (chained t w)
  pub unspoken : (name : ℕ) → IsUngiven (roll_of k.own) name → IsUnspoken (turned w) name

-- wherever the one is a worker's section, the other is
abbrev pub StaysSection : Kept → Kept → Type 0
StaysSection old new = (t : Tables) (w : Worker) → IsSection t old w → IsSection t new w
