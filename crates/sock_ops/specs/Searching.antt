-- What became of the connection at one port: our own.
use Rattle.std.specs.Prelude.{◌≡◌, ℕ, ◌+◌, Option, None, Some, Result, Ok, Err}
use Rattle.sock_card.specs.Conflict.{owner_key}
use Rattle.sock_card.specs.declared.owner.Owner.{Owner}
use Rattle.bind_buckets.specs.declared.request.Request.TheVariants as requests
use Rattle.bind_buckets.specs.declared.request.Answer.TheVariants as answers
use Rattle.bind_buckets.specs.declared.request.Entry.{Entry}
use Rattle.bind_buckets.specs.Turned.{View}
use Rattle.chain_book.specs.declared.outcome.Replace.{Replace}
use Rattle.table_rule.specs.declared.view.Layout.{Layout}
use Rattle.table_model.specs.declared.operation.OpEnd.{OpEnd}
use Rattle.table_model.specs.declared.operation.OpEnd.TheVariants as errors
use Rattle.table_model.specs.Own.{Mine}
use Rattle.table_model.specs.Asking.{Asking, ends, asks}
use Rattle.table_model.specs.Operations.{Did, done, refused, connect_free}
use Rattle.sock_ops.specs.Sides.{Side, changes_by}
use Rattle.sock_ops.specs.declared.tables.Tables.{Tables}
use Rattle.sock_ops.specs.declared.tables.Worker.{Worker}
use Rattle.sock_ops.specs.Connecting.{StandsFull}
use Rattle.sock_ops.specs.Goes.{Went, Stops}
use Rattle.sock_ops.specs.Stands.{IsAway, MayDraw}

-- `connect` may choose the port
abbrev pub free_entry : Owner → Entry
free_entry a = record { request = requests.Free a.port a.net; answer = answers.Done }

-- the plan at the owner's port, and then the next
abbrev pub port_plan : Layout → Owner → ℕ → Replace → Asking Did → Asking Did
port_plan layout a moment rule next =
    asks (owner_key a) (requests.Free a.port a.net) (connect_free layout.shape layout.seed a moment rule next)

-- the connection is made, or no chain was changed and the next port is to be tried, or the search ends; whatever the
-- next is
abbrev pub TriesAt : ℕ → Layout → Owner → ℕ → Replace → View → View → Side → Side → Result (Option Mine) OpEnd → Type 0
TriesAt count layout a moment rule v w c d (Ok (Some m)) =
    (next : Asking Did) → Went count (port_plan layout a moment rule next) v w c d (ends (done m))
TriesAt count layout a moment rule v w c d (Ok None) =
    ((next : Asking Did) → Went count (port_plan layout a moment rule next) v w c d next)
    × (changes_by d ≡ changes_by c)
TriesAt count layout a moment rule v w c d (Err (errors.LeftOff cause)) =
    (next : Asking Did) → Stops count (port_plan layout a moment rule next) v w c d
TriesAt count layout a moment rule v w c d (Err end) =
    (next : Asking Did) → Went count (port_plan layout a moment rule next) v w c d (ends (refused end))

-- the connected socket stands, or its name is away still
abbrev pub TryLeaves : Tables → ℕ → View → Side → Result (Option Mine) OpEnd → Type 0
TryLeaves t name w d (Ok (Some m)) = StandsFull t w d m
TryLeaves t name w d _ = IsAway name w

-- a port whose four-tuple is taken is passed over; else the search ends
abbrev pub next_or : OpEnd → Result (Option Mine) OpEnd
next_or (errors.Taken name) = Ok None
next_or end = Err end

-- a port that is passed over costs so many entries, and no number of the clock
abbrev pub PassesBy : ℕ → ℕ → ℕ → Result (Option Mine) OpEnd → Type 0
PassesBy n old new (Ok None) = new ≡ old + n
PassesBy n old new _ = Unit {0}

abbrev pub KeepsDraws : Worker → Worker → Result (Option Mine) OpEnd → Type 0
KeepsDraws w u (Ok None) = (n : ℕ) → MayDraw n w → MayDraw n u
KeepsDraws w u _ = Unit {0}
