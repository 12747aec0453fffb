-- What each operation on a socket asks of the tables. Sources: inet_bind, inet_listen, inet_stream_connect,
-- inet_accept and inet_release of net/ipv4/af_inet.c; inet_csk_get_port and inet_csk_listen_start of
-- net/ipv4/inet_connection_sock.c; __inet_hash_connect, __inet_inherit_port, inet_put_port and inet_unhash of
-- net/ipv4/inet_hashtables.c; inet_twsk_hashdance_schedule of net/ipv4/inet_timewait_sock.c; tcp_conn_request of
-- net/ipv4/tcp_input.c and inet_csk_complete_hashdance of net/ipv4/inet_connection_sock.c. Our own: the order of the
-- questions, and what `drop` and `reap` do.
--
-- To be read from an operation's name upwards: `bind`, `listen`, `connect`, `accept`, `syn`, `ack`, `close`, `drop` and
-- `reap`. What each calls stands above it; the socket's states are parted in `bind_as`, `listen_as`, `connect_from`,
-- `ack_from`, `close_as` and `drop_as`.
use Rattle.std.specs.Prelude.{ℕ, ◌+◌, Bool, true, false, ◌==◌, List, [], ◌∷◌, Option, None, Some, if◌then◌else◌, filter, not}
use Rattle.std.specs.Option.{option_map_or}
use Rattle.sock_card.specs.Conflict.{owner_key, bind_key}
use Rattle.sock_card.specs.declared.owner.Owner.{Owner}
use Rattle.sock_card.specs.declared.owner.State.{State}
use Rattle.sock_card.specs.declared.owner.State.TheVariants as states
use Rattle.sock_card.specs.declared.card.Card.{Card}
use Rattle.sock_card.specs.declared.card.Kind.TheVariants as kinds
use Rattle.sock_card.specs.Became.{as_listener, as_waiting}
use Rattle.bind_buckets.specs.declared.request.Request.TheVariants as requests
use Rattle.bind_buckets.specs.declared.request.Answer.{Answer}
use Rattle.bind_buckets.specs.declared.request.Answer.TheVariants as answers
use Rattle.chain_book.specs.declared.outcome.Place.{Place}
use Rattle.chain_book.specs.declared.outcome.Hashed.{Hashed}
use Rattle.chain_book.specs.declared.outcome.Replace.{Replace}
use Rattle.chain_book.specs.declared.outcome.Replace.TheVariants as rules
use Rattle.chain_book.specs.declared.shape.Shape.{Shape}
use Rattle.chain_book.specs.Chains.{Outcome, put, taken, full}
use Rattle.chain_book.specs.Homes.{home}
use Rattle.flat_list.specs.declared.command.End.{End}
use Rattle.flat_list.specs.Owned.{addressed, bound_at, connected_to, connected_at, child_owner, request_owner, heir_owner, source_of, is_no_end, is_no_accept, is_no_ack}
use Rattle.table_model.specs.declared.operation.OpEnd.{OpEnd}
use Rattle.table_model.specs.declared.operation.OpEnd.TheVariants as errors
use Rattle.table_model.specs.Asking.{Asking, ends, asks, inserts, adds, unhashes, reaps, impossible}
use Rattle.table_model.specs.Own.{Mine, card_of, is_over}

-- what an operation comes to: the socket that it leaves, or why it was refused
pub data Did : Type 0 where
  done : Mine → Did
  refused : OpEnd → Did

-- what `close` comes to: the socket is gone; it waits; or it is gone since it found no slot to wait in
pub data Closed : Type 0 where
  gone : Closed
  waiting : Mine → Closed
  no_slot : ℕ → ℕ → Closed

abbrev pub nowhere : Place
nowhere = record { bucket = 0; slot = 0 }

-- a socket that isn't hashed
abbrev pub plain : Owner → Mine
plain owner = record { owner = owner; extra = 0; place = nowhere }

-- a bucket does what it is asked, where nothing can be in the way
abbrev pub when_done : {R : Type 0} → Asking R → Answer → Asking R
when_done next answers.Done = next
when_done next _ = impossible

-- a port that a search asked for: it is had, or the next one is asked for
abbrev pub found_next : {R : Type 0} → Asking R → Asking R → Answer → Asking R
found_next found next answers.Done = found
found_next found next (answers.InUse name) = next
found_next found next _ = impossible

-- the ports in turn, until one isn't refused
abbrev pub search_bind : {R : Type 0} → Owner → ℕ → (ℕ → Asking R) → Asking R → List ℕ → Asking R
search_bind a addr found none [] = none
search_bind a addr found none (port ∷ ports) =
    asks (bind_key port a.net) (requests.BindAuto (bound_at a addr port))
    (found_next (found port) (search_bind a addr found none ports))

abbrev pub bound : Owner → ℕ → ℕ → Asking Did
bound a addr port = ends (done (plain (bound_at a addr port)))

-- to a port that is given
abbrev pub bind_answered : Owner → End → Answer → Asking Did
bind_answered a end answers.Done = bound a end.addr end.port
bind_answered a end (answers.InUse name) = ends (refused (errors.InUse name))
bind_answered a end _ = impossible

-- to a port out of these, unless it is taken late
abbrev pub bind_any : Owner → ℕ → List ℕ → Asking Did
bind_any a addr ports =
    if a.noport then ends (done (plain (addressed a addr)))
    else search_bind a addr (bound a addr) (ends (refused errors.NoPort)) ports

abbrev pub bind_unbound : Owner → End → List ℕ → Asking Did
bind_unbound a end ports =
    if end.port == 0 then bind_any a end.addr ports
    else asks (bind_key end.port a.net) (requests.Bind (bound_at a end.addr end.port)) (bind_answered a end)

-- `bind` of a socket in that state, to an end or to a port out of these
abbrev pub bind_as : State → Mine → End → List ℕ → Asking Did
bind_as states.Unbound m end ports = bind_unbound m.owner end ports
bind_as _ m end ports = ends (refused errors.Inval)

abbrev pub bind : Mine → End → List ℕ → Asking Did
bind m end ports = bind_as m.owner.state m end ports

-- a refused `listen` gives up the port that it took
abbrev pub give_up : Bool → Owner → OpEnd → Asking Did
give_up true a end = asks (owner_key a) (requests.Remove a.name) (when_done (ends (refused end)))
give_up false a end = ends (refused end)

-- the listener that the owner becomes, in that group
abbrev pub listener : Owner → Option ℕ → Mine
listener a group =
    record { owner = as_listener a; extra = option_map_or (λ (g : ℕ). g + 1) group 0; place = nowhere }

-- the owner of a TIME_WAIT that was replaced leaves; what that answers is passed over
abbrev pub then_replaced : {R : Type 0} → Option Hashed → Asking R → Asking R
then_replaced None next = next
then_replaced (Some old) next =
    asks (bind_key old.card.lport old.card.net) (requests.RemoveWaiting old.card.name) (λ answer. next)

abbrev pub full_card : Owner → Card
full_card a = card_of kinds.Full (plain a)

abbrev pub request_card : Owner → Card
request_card a = card_of kinds.Request (plain a)

-- the source from which a socket is connected to that end
abbrev pub source_to : Owner → Option ℕ → End → Option ℕ
source_to a from to = if is_no_end to then None else source_of a.addr from

-- the owner leaves its port
abbrev pub leave : {R : Type 0} → Owner → R → Asking R
leave a result = asks (owner_key a) (requests.Remove a.name) (when_done (ends result))

-- a socket is gone; it leaves its chain first
abbrev pub drop_as : {R : Type 0} → State → Mine → R → Asking R
drop_as states.Unbound m result = ends result
drop_as states.Bound m result = leave m.owner result
drop_as states.Listening m result = unhashes m.place (card_of kinds.Listen m) (leave m.owner result)
drop_as states.Full m result = unhashes m.place (card_of kinds.Full m) (leave m.owner result)
drop_as states.Request m result = unhashes m.place (card_of kinds.Request m) (ends result)
drop_as states.TimeWait m result = impossible

abbrev pub drop : {R : Type 0} → Mine → R → Asking R
drop m result = drop_as m.owner.state m result

-- the TIME_WAIT that a full socket leaves when it is closed at that moment
abbrev pub wait_of : Mine → ℕ → Mine
wait_of m moment = record { owner = as_waiting m.owner; extra = moment; place = nowhere }

abbrev pub reaped_next : Mine → ℕ → (ℕ → Asking ℕ) → Bool → Asking ℕ
reaped_next w count next true =
    asks (owner_key w.owner) (requests.RemoveWaiting w.owner.name) (λ answer. next (count + 1))
reaped_next w count next false = next count

-- these TIME_WAITs in turn; those that others replaced are gone
abbrev pub reap_each : List Mine → ℕ → Asking ℕ
reap_each [] count = ends count
reap_each (w ∷ rest) count = reaps (card_of kinds.TimeWait w) (reaped_next w count (reap_each rest))

-- `reap` at that moment: how many were there
abbrev pub reap : List Mine → ℕ → Asking ℕ
reap waits moment = reap_each (filter (is_over moment) waits) 0

module _ (shape : Shape) (seed : ℕ) where
  -- the place of a card that was hashed
  abbrev pub place_of : Card → ℕ → Place
  place_of card slot = record { bucket = home shape seed card; slot = slot }

  -- a listener that is hashed in that slot
  abbrev pub listens_in : Mine → ℕ → Mine
  listens_in l slot = record l { place = place_of (card_of kinds.Listen l) slot }

  abbrev pub listen_hashed : Bool → Owner → Mine → Outcome → Asking Did
  listen_hashed took a l (put slot None) =
      asks (owner_key a) (requests.Listen a.name slot) (when_done (ends (done (listens_in l slot))))
  listen_hashed took a l (full owned held) = give_up took a (errors.Full owned held)
  listen_hashed took a l _ = impossible

  abbrev pub listen_in : Bool → Owner → Mine → Asking Did
  listen_in took a l = adds (card_of kinds.Listen l) (listen_hashed took a l)

  abbrev pub listen_answered : Bool → Owner → Answer → Asking Did
  listen_answered took a (answers.Group group) = listen_in took a (listener a group)
  listen_answered took a (answers.InUse name) = give_up took a (errors.InUse name)
  listen_answered took a answers.GroupFull = give_up took a errors.GroupFull
  listen_answered took a answers.GroupsFull = give_up took a errors.GroupsFull
  listen_answered took a _ = impossible

  -- `listen` of a socket that has a port, taken by this call or before
  abbrev pub listen_at : Bool → Owner → Asking Did
  listen_at took a = asks (owner_key a) (requests.MayListen a.name) (listen_answered took a)

  abbrev pub listen_found : Owner → ℕ → Asking Did
  listen_found a port = listen_at true (bound_at a a.addr port)

  -- `listen` of a socket in that state; one without a port takes the first that it can have of these
  abbrev pub listen_as : State → Mine → List ℕ → Asking Did
  listen_as states.Unbound m ports =
      search_bind m.owner m.owner.addr (listen_found m.owner) (ends (refused errors.NoPort)) ports
  listen_as states.Bound m ports = listen_at false m.owner
  listen_as states.Listening m ports = ends (done m)
  listen_as _ m ports = ends (refused errors.Inval)

  abbrev pub listen : Mine → List ℕ → Asking Did
  listen m ports = listen_as m.owner.state m ports

  -- a full socket that is hashed in that slot
  abbrev pub full_in : Owner → ℕ → Mine
  full_in a slot = record { owner = a; extra = 0; place = place_of (full_card a) slot }

  abbrev pub full_done : Owner → ℕ → Option Hashed → Asking Did
  full_done a slot old = then_replaced old (ends (done (full_in a slot)))

  abbrev pub connect_hashed : Owner → Outcome → Asking Did
  connect_hashed a (put slot old) =
      asks (owner_key a) (requests.ConnectBound a.name a.addr a.remote a.rport) (when_done (full_done a slot old))
  connect_hashed a (taken name) = ends (refused (errors.Taken name))
  connect_hashed a (full owned held) = ends (refused (errors.Full owned held))

  -- `connect` of a bound socket, which would be that
  abbrev pub connect_bound : Owner → ℕ → Replace → Asking Did
  connect_bound a moment rule = inserts (full_card a) moment rule (connect_hashed a)

  -- the four-tuple at one port: it is had, or the next port is tried
  abbrev pub connect_tried : Owner → Asking Did → Outcome → Asking Did
  connect_tried a next (put slot old) = asks (owner_key a) (requests.ConnectAuto a) (when_done (full_done a slot old))
  connect_tried a next (taken name) = next
  connect_tried a next (full owned held) = ends (refused (errors.Full owned held))

  abbrev pub connect_free : Owner → ℕ → Replace → Asking Did → Answer → Asking Did
  connect_free a moment rule next answers.Done = inserts (full_card a) moment rule (connect_tried a next)
  connect_free a moment rule next (answers.NotFree name) = next
  connect_free a moment rule next _ = impossible

  -- the ports in turn, until one is free and has the four-tuple, or no slot is left
  abbrev pub search_connect : Owner → ℕ → End → ℕ → Replace → List ℕ → Asking Did
  search_connect a source to moment rule [] = ends (refused errors.NoPort)
  search_connect a source to moment rule (port ∷ ports) =
      asks (bind_key port a.net) (requests.Free port a.net)
      (connect_free (connected_at a source port to) moment rule (search_connect a source to moment rule ports))

  -- from that source, if there is one
  abbrev pub connect_from : State → Owner → Option ℕ → End → ℕ → Replace → List ℕ → Asking Did
  connect_from states.Unbound a (Some source) to moment rule ports = search_connect a source to moment rule ports
  connect_from states.Bound a (Some source) to moment rule ports = connect_bound (connected_to a source to) moment rule
  connect_from states.Unbound a None to moment rule ports = ends (refused errors.Inval)
  connect_from states.Bound a None to moment rule ports = ends (refused errors.Inval)
  connect_from states.Request a source to moment rule ports = ends (refused errors.Inval)
  connect_from _ a source to moment rule ports = ends (refused errors.IsConn)

  -- `connect`, at that moment; a TIME_WAIT of the four-tuple may be replaced by that rule
  abbrev pub connect : Mine → Option ℕ → End → ℕ → Replace → List ℕ → Asking Did
  connect m from to moment rule ports =
      connect_from m.owner.state m.owner (source_to m.owner from to) to moment rule ports

  abbrev pub accept_hashed : Owner → Owner → Outcome → Asking Did
  accept_hashed l child (put slot old) =
      asks (owner_key l) (requests.Inherit l.name child.name child.mark child.addr child.remote child.rport)
      (when_done (full_done child slot old))
  accept_hashed l child (taken name) = ends (refused (errors.Taken name))
  accept_hashed l child (full owned held) = ends (refused (errors.Full owned held))

  abbrev pub accept_as : Owner → Owner → Asking Did
  accept_as l child = inserts (full_card child) 0 rules.Always (accept_hashed l child)

  -- `accept` of a socket of that name, with that mark, from one end at another
  abbrev pub accept : Mine → ℕ → ℕ → End → End → Asking Did
  accept l name mark from at =
      if is_no_accept l.owner from at then ends (refused errors.Inval)
      else accept_as l.owner (child_owner l.owner name mark from at)

  -- a request that is hashed in that slot
  abbrev pub request_in : Owner → ℕ → Mine
  request_in a slot = record { owner = a; extra = 0; place = place_of (request_card a) slot }

  abbrev pub syn_hashed : Owner → Outcome → Asking Did
  syn_hashed r (put slot old) = then_replaced old (ends (done (request_in r slot)))
  syn_hashed r (taken name) = ends (refused (errors.Taken name))
  syn_hashed r (full owned held) = ends (refused (errors.Full owned held))

  abbrev pub syn_as : Owner → Asking Did
  syn_as r = inserts (request_card r) 0 rules.Always (syn_hashed r)

  -- `syn`: a request of that name, with that mark, for a handshake with the listener from one end at another
  abbrev pub syn : Mine → ℕ → ℕ → End → End → Asking Did
  syn l name mark from at =
      if is_no_accept l.owner from at then ends (refused errors.Inval)
      else syn_as (request_owner l.owner name mark from at)

  -- the child stands before the request is gone, and then it comes to its listener's port
  abbrev pub ack_hashed : Mine → Owner → Owner → Outcome → Asking Did
  ack_hashed r l child (put slot None) =
      unhashes r.place (card_of kinds.Request r)
      (asks (owner_key l) (requests.Inherit l.name child.name child.mark child.addr child.remote child.rport)
      (when_done (ends (done (full_in child slot)))))
  ack_hashed r l child (full owned held) = ends (refused (errors.Full owned held))
  ack_hashed r l child _ = impossible

  abbrev pub ack_as : Mine → Owner → Owner → Asking Did
  ack_as r l child = adds (full_card child) (ack_hashed r l child)

  -- by the listener, where it is open still
  abbrev pub ack_by : Mine → Option Mine → ℕ → ℕ → Asking Did
  ack_by r None name mark = ends (refused errors.Inval)
  ack_by r (Some l) name mark =
      if is_no_ack l.owner r.owner then ends (refused errors.Inval)
      else ack_as r l.owner (heir_owner l.owner name mark r.owner)

  -- `ack` of a socket in that state: the child of that name, with that mark, comes in the place of a request
  abbrev pub ack_from : State → Mine → Option Mine → ℕ → ℕ → Asking Did
  ack_from states.Request r l name mark = ack_by r l name mark
  ack_from _ r l name mark = ends (refused errors.Inval)

  abbrev pub ack : Mine → Option Mine → ℕ → ℕ → Asking Did
  ack r l name mark = ack_from r.owner.state r l name mark

  abbrev pub waits_in : Mine → ℕ → Mine
  waits_in w slot = record w { place = place_of (card_of kinds.TimeWait w) slot }

  -- the TIME_WAIT stands before the socket is gone
  abbrev pub close_hashed : Mine → Mine → Outcome → Asking Closed
  close_hashed m w (put slot None) =
      unhashes m.place (card_of kinds.Full m)
      (asks (owner_key m.owner) (requests.ToTimeWait m.owner.name) (when_done (ends (waiting (waits_in w slot)))))
  close_hashed m w (full owned held) =
      unhashes m.place (card_of kinds.Full m) (leave m.owner (no_slot owned held))
  close_hashed m w _ = impossible

  abbrev pub close_full : Mine → Mine → Asking Closed
  close_full m w = adds (card_of kinds.TimeWait w) (close_hashed m w)

  -- `close` of a socket in that state, at that moment
  abbrev pub close_as : State → Mine → ℕ → Asking Closed
  close_as states.Full m moment = close_full m (wait_of m moment)
  close_as state m moment = drop_as state m gone

  abbrev pub close : Mine → ℕ → Asking Closed
  close m moment = close_as m.owner.state m moment

-- the TIME_WAITs that `reap` leaves
abbrev pub kept_waits : List Mine → ℕ → List Mine
kept_waits waits moment = filter (λ w. not (is_over moment w)) waits
