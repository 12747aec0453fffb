-- Questions about a list of sockets. Which of them take a slot and are seen by lookups follows the tables of
-- net/ipv4/inet_hashtables.c; which owners of a port refuse another is inet_csk_bind_conflict of
-- net/ipv4/inet_connection_sock.c, asked of every other owner; who keeps a four-tuple is __inet_check_established of
-- net/ipv4/inet_hashtables.c and tcp_twsk_unique of net/ipv4/tcp_ipv4.c; whose group a listener joins is
-- inet_reuseport_add_sock of net/ipv4/inet_hashtables.c. That devices don't keep two full sockets of one four-tuple
-- apart is our own rule, and so are which TIME_WAIT gives way, how long one lasts, and that `connect` shares a port
-- only with owners for whom it chose that.
--
-- To be read from the beginning: states and names, up to `open_in`; ports, up to `is_claimed`; four-tuples, up to
-- `without_waiting`; and then groups, and what a list keeps.
use Rattle.std.specs.Prelude.{ℕ, ◌/◌, ◌^◌, Bool, true, false, ◌==◌, ◌&&◌, ◌||◌, not, List, Option, None, Some, if◌then◌else◌, map, filter, find, count_by}
use Rattle.std.specs.List.{list_any}
use Rattle.std.specs.Option.{option_map}
use Rattle.sock_card.specs.declared.card.Kind.{Kind}
use Rattle.sock_card.specs.declared.card.Kind.TheVariants as kinds
use Rattle.sock_card.specs.declared.owner.Owner.{Owner}
use Rattle.sock_card.specs.declared.owner.State.{State}
use Rattle.sock_card.specs.declared.owner.State.TheVariants as states
use Rattle.sock_card.specs.declared.card.Tuple.{Tuple}
use Rattle.sock_card.specs.Tuples as tuples
use Rattle.sock_card.specs.Conflict as conflict
use Rattle.sock_card.specs.Conflict.{refuses, overlap, holds, is_time_wait}
use Rattle.sock_card.specs.TimeWait.{expired, gives_way}
use Rattle.flat_list.specs.declared.socket.Socket.{Socket}

-- the kind under which a socket of that state is looked up, if it is
abbrev pub kind_of : State → Option Kind
kind_of states.Listening = Some kinds.Listen
kind_of states.Full = Some kinds.Full
kind_of states.TimeWait = Some kinds.TimeWait
kind_of states.Request = Some kinds.Request
kind_of _ = None

-- a socket that lookups find, and that takes a slot
abbrev pub is_hashed : State → Bool
is_hashed states.Listening = true
is_hashed states.Full = true
is_hashed states.TimeWait = true
is_hashed states.Request = true
is_hashed _ = false

-- an owner is a socket that has a port; a request isn't one, as it stands at its listener's
abbrev pub is_owner : State → Bool
is_owner states.Unbound = false
is_owner states.Request = false
is_owner _ = true

abbrev pub has_name : ℕ → Socket → Bool
has_name name s = s.owner.name == name

-- the open socket of that name, which a label still names
abbrev pub open_named : ℕ → List Socket → Option Socket
open_named name sockets = find (λ s. has_name name s && s.named) sockets

-- an open socket of that section
abbrev pub is_open_in : ℕ → Socket → Bool
is_open_in n s = s.named && (s.owner.name / 2 ^ 56 == n)

-- the open socket of that name in that section
abbrev pub open_in : ℕ → ℕ → List Socket → Option Socket
open_in n name sockets = find (λ s. has_name name s && is_open_in n s) sockets

-- another socket than that of this name, which has a port
abbrev pub is_other_owner : ℕ → Socket → Bool
is_other_owner name s = is_owner s.owner.state && not (has_name name s)

-- some other owner refuses this one
abbrev pub is_refused : Owner → List Socket → Bool
is_refused a sockets = list_any (λ s. is_other_owner a.name s && refuses a s.owner) sockets

-- some other owner overlaps this one
abbrev pub is_overlapped : Owner → List Socket → Bool
is_overlapped a sockets = list_any (λ s. is_other_owner a.name s && overlap a s.owner) sockets

-- some owner has the port of that namespace, and `connect` didn't choose it for that owner
abbrev pub is_claimed : ℕ → ℕ → List Socket → Bool
is_claimed port net sockets = list_any (λ s. is_owner s.owner.state && holds port net s.owner) sockets

-- a socket of that state has its four-tuple for itself: a full one, or a request for one
abbrev pub claims_tuple : State → Bool
claims_tuple states.Full = true
claims_tuple states.Request = true
claims_tuple _ = false

-- an owner's four-tuple
abbrev pub owner_tuple : Owner → Tuple
owner_tuple a = record { net = a.net; local = a.addr; lport = a.port; remote = a.remote; rport = a.rport }

-- the four-tuple of one is that of the other
abbrev pub have_one_tuple : Owner → Owner → Bool
have_one_tuple a b = tuples.same_tuple (owner_tuple a) (owner_tuple b)

-- some full socket or request has the owner's four-tuple
abbrev pub has_twin : Owner → List Socket → Bool
has_twin a sockets = list_any (λ s. claims_tuple s.owner.state && have_one_tuple a s.owner) sockets

-- a TIME_WAIT of the owner's four-tuple
abbrev pub waits_at : Owner → Socket → Bool
waits_at a s = is_time_wait s.owner.state && have_one_tuple a s.owner

-- `connect` can't have the owner's four-tuple at that moment: it is a full socket's or a request's, or that of a
-- TIME_WAIT that doesn't give way
abbrev pub is_taken : Bool → ℕ → Owner → List Socket → Bool
is_taken switch moment a sockets =
    has_twin a sockets || list_any (λ s. waits_at a s && not (gives_way switch moment s.stamp)) sockets

-- the sockets but the TIME_WAITs of the owner's four-tuple
abbrev pub without_waiting : Owner → List Socket → List Socket
without_waiting a sockets = filter (λ s. not (waits_at a s)) sockets

-- a listener in whose group the owner would be
abbrev pub is_mate : Owner → Socket → Bool
is_mate a s = conflict.is_mate a s.owner

-- the first such listener's name
abbrev pub mate_of : Owner → List Socket → Option ℕ
mate_of a sockets = option_map (λ (m : Socket). m.owner.name) (find (is_mate a) sockets)

-- a TIME_WAIT of a section that has lasted its minute at that moment
abbrev pub is_expired : ℕ → ℕ → Socket → Bool
is_expired section moment s =
    is_time_wait s.owner.state && (s.owner.name / 2 ^ 56 == section) && expired s.stamp moment

-- the new socket where the old one has its name
abbrev pub replaced : Socket → Socket → Socket
replaced new s = if has_name new.owner.name s then new else s

-- the sockets with this one in place of the one of its name
abbrev pub put : Socket → List Socket → List Socket
put new sockets = map (replaced new) sockets

-- the sockets but those of that name
abbrev pub without : ℕ → List Socket → List Socket
without name sockets = filter (λ s. not (has_name name s)) sockets

abbrev pub slots_used : List Socket → ℕ
slots_used sockets = count_by (λ s. is_hashed s.owner.state) sockets
