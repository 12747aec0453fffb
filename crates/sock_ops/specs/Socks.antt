-- What a socket's value stands for: our own.
--
-- `full_at`, `request_at`, `listening_at` and `source_to` are of private functions; contracts of public calls cite the
-- rest.
use Rattle.std.specs.Prelude.{◌≡◌, ℕ, Option, None, if◌then◌else◌, Result, Ok, Err}
use Rattle.sock_card.specs.declared.owner.Owner.{Owner}
use Rattle.sock_card.specs.declared.owner.State.TheVariants as states
use Rattle.chain_book.specs.declared.outcome.Place.{Place}
use Rattle.flat_list.specs.declared.command.End.{End}
use Rattle.flat_list.specs.Owned.{source_of, is_no_end}
use Rattle.table_model.specs.declared.operation.OpEnd.{OpEnd}
use Rattle.table_model.specs.Own.{Mine}
use Rattle.table_model.specs.Operations.{Did, done}
use Rattle.sock_ops.specs.declared.sock.Sock.{Sock}
use Rattle.sock_ops.specs.declared.sock.Sock.TheVariants as socks

-- a socket, as the plans know it
abbrev pub mine_of : Sock → Mine
mine_of (socks.Unbound m) = m
mine_of (socks.Bound m) = m
mine_of (socks.Listening m) = m
mine_of (socks.Full m) = m
mine_of (socks.Request m) = m

-- its type says its state
abbrev pub FitsState : Sock → Type 0
FitsState (socks.Unbound m) = m.owner.state ≡ states.Unbound
FitsState (socks.Bound m) = m.owner.state ≡ states.Bound
FitsState (socks.Listening m) = m.owner.state ≡ states.Listening
FitsState (socks.Full m) = m.owner.state ≡ states.Full
FitsState (socks.Request m) = m.owner.state ≡ states.Request

-- a connected socket with that owner
abbrev pub full_at : Owner → Place → Mine
full_at a place = record { owner = a; extra = 0; place = place }

-- a request with that owner
abbrev pub request_at : Owner → Place → Mine
request_at a place = record { owner = a; extra = 0; place = place }

-- its own end
abbrev pub end_of : Mine → End
end_of m = record { addr = m.owner.addr; port = m.owner.port }

-- a listener, with its group and 1
abbrev pub listening_at : Owner → ℕ → Place → Mine
listening_at a extra place = record { owner = a; extra = extra; place = place }

-- what an operation hands back, without the socket of a refusal
abbrev pub without_socket : {A S : Type 0} → Result A (S × OpEnd) → Result A OpEnd
without_socket (Ok x) = Ok x
without_socket (Err refusal) = Err refusal.1

abbrev pub first_mine : {B : Type 0} → Sock × B → Did
first_mine x = done (mine_of x.0)

-- the source of a socket with that address
abbrev pub source_to : ℕ → Option ℕ → End → Option ℕ
source_to addr from to = if is_no_end to then None else source_of addr from
