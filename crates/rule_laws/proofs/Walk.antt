-- A fact of a list's sections that a search keeps is kept by each command that changes no section itself.
use Rattle.std.proofs.Common.{ℕ, ◌==◌, not, List, Option, Some, None, if◌then◌else◌}
use Rattle.std.proofs.lemmas.Bool.{cond_both}
use Rattle.sock_card.specs.declared.owner.State.{State}
use Rattle.sock_card.specs.declared.owner.State.TheVariants as states
use Rattle.flat_list.specs.declared.header.First.TheVariants as firsts
use Rattle.flat_list.specs.declared.socket.Socket.{Socket}
use Rattle.flat_list.specs.declared.command.End.{End}
use Rattle.flat_list.specs.declared.command.Reply.TheVariants as replies
use Rattle.flat_list.specs.Connect.{connected_socket, end_of, replacing, is_taken_in, connect, connect_as, connect_from, connect_found, connect_search, connect_socket, connected_by_search, suits_connect, child_of, request_of, heir_of, accept, accept_as, syn, without_request, hand_over, ack, ack_by, ack_socket}
use Rattle.flat_list.specs.Flat.{Flat}
use Rattle.flat_list.specs.Groups.{Group}
use Rattle.flat_list.specs.Outcome.{Outcome, added, removed, unchanged, changed, has_slot, no_slot, draw, Found, search_port}
use Rattle.flat_list.specs.Owned.{source_of, is_no_end, is_no_accept, is_no_ack}
use Rattle.flat_list.specs.Sections.{Section, moment_of}
use Rattle.flat_list.specs.Sockets.{is_refused, has_twin, open_in}
use Rattle.flat_list.specs.Step.{at_end, at_address, at_port, bind, bind_any, bind_given, bind_found, bind_search, bind_socket, search_bind, listen, listens_in, listen_as, groups_with, listen_bound, listen_found, listen_socket, waiting, close, close_socket, drop}

module _ (P : List Section → Type 0) where
  abbrev pub Keeps : Outcome → Type 0
  Keeps o = P o.flat.sections

  listen_as_keeps : (flat : Flat) (s : Socket) (groups : Option (List Group)) → P flat.sections → Keeps (listen_as flat s groups)
  listen_as_keeps flat s None p = p
  listen_as_keeps flat s (Some groups) p =
      cond_both (not (has_slot flat)) (no_slot flat) (listens_in flat s groups) Keeps (λ _. p) (λ _. p)

  listen_bound_keeps : (flat : Flat) (s : Socket) → P flat.sections → Keeps (listen_bound flat s)
  listen_bound_keeps flat s p =
      cond_both (is_refused s.owner flat.sockets) (unchanged flat replies.Eaddrinuse) (listen_as flat s (groups_with flat s)) Keeps (λ _. p)
      (λ _. listen_as_keeps flat s (groups_with flat s) p)

  connect_as_keeps : (flat : Flat) (new : Socket) → P flat.sections → Keeps (connect_as flat new)
  connect_as_keeps flat new p =
      cond_both (not (has_slot flat)) (no_slot flat) (changed (replacing flat new.owner) new (replies.End (end_of new))) Keeps (λ _. p) (λ _. p)

  bind_found_keeps : (found : Found) (s : Socket) (addr : ℕ) (port : Option ℕ) → P found.flat.sections → Keeps (bind_found found s addr port)
  bind_found_keeps found s addr None p = p
  bind_found_keeps found s addr (Some port) p = p

  listen_found_keeps : (found : Found) (s : Socket) (port : Option ℕ) → P found.flat.sections → Keeps (listen_found found s port)
  listen_found_keeps found s None p = p
  listen_found_keeps found s (Some port) p = listen_bound_keeps found.flat (at_port s s.owner.addr port) p

  connect_found_keeps : (found : Found) (s : Socket) (source : ℕ) (to : End) (port : Option ℕ) → P found.flat.sections → Keeps (connect_found found s source to port)
  connect_found_keeps found s source to None p = p
  connect_found_keeps found s source to (Some port) p = connect_as_keeps found.flat (connected_by_search s source to port) p

  accept_as_keeps : (flat : Flat) (new : Socket) → P flat.sections → Keeps (accept_as flat new)
  accept_as_keeps flat new p =
      let done : Outcome = added (replacing flat new.owner) new replies.Ok in
      cond_both (has_twin new.owner flat.sockets) (unchanged flat replies.Eaddrnotavail) (if not (has_slot flat) then no_slot flat else done) Keeps (λ _. p)
      (λ _. cond_both (not (has_slot flat)) (no_slot flat) done Keeps (λ _. p) (λ _. p))

  pub accept_keeps : (flat : Flat) (name : ℕ) (o : Option Socket) (from at : End) → P flat.sections → Keeps (accept flat name o from at)
  accept_keeps flat name None from at p = p
  accept_keeps flat name (Some l) from at p =
      let child : Socket = child_of l name from at in
      cond_both (is_no_accept l.owner from at) (unchanged flat replies.Einval) (accept_as flat child) Keeps (λ _. p) (λ _. accept_as_keeps flat child p)

  pub syn_keeps : (flat : Flat) (name : ℕ) (o : Option Socket) (from at : End) → P flat.sections → Keeps (syn flat name o from at)
  syn_keeps flat name None from at p = p
  syn_keeps flat name (Some l) from at p =
      let r : Socket = request_of l name from at in
      cond_both (is_no_accept l.owner from at) (unchanged flat replies.Einval) (accept_as flat r) Keeps (λ _. p) (λ _. accept_as_keeps flat r p)

  hand_over_keeps : (flat : Flat) (r child : Socket) → P flat.sections → Keeps (hand_over flat r child)
  hand_over_keeps flat r child p =
      cond_both (not (has_slot flat)) (no_slot flat) (added (without_request flat r) child replies.Ok) Keeps (λ _. p) (λ _. p)

  ack_by_keeps : (flat : Flat) (name : ℕ) (r : Socket) (o : Option Socket) → P flat.sections → Keeps (ack_by flat name r o)
  ack_by_keeps flat name r None p = p
  ack_by_keeps flat name r (Some l) p =
      let child : Socket = heir_of l name r in
      cond_both (is_no_ack l.owner r.owner) (unchanged flat replies.Einval) (hand_over flat r child) Keeps (λ _. p) (λ _. hand_over_keeps flat r child p)

  ack_socket_keeps : (flat : Flat) (n name : ℕ) (r : Socket) (t : State) → P flat.sections → Keeps (ack_socket flat n name r t)
  ack_socket_keeps flat n name r states.Request p = ack_by_keeps flat name r (open_in n r.owner.origin flat.sockets) p
  ack_socket_keeps flat n name r _ p = p

  pub ack_keeps : (flat : Flat) (n name : ℕ) (o : Option Socket) → P flat.sections → Keeps (ack flat n name o)
  ack_keeps flat n name None p = p
  ack_keeps flat n name (Some r) p = ack_socket_keeps flat n name r r.owner.state p

  pub drop_keeps : (flat : Flat) (o : Option Socket) → P flat.sections → Keeps (drop flat o)
  drop_keeps flat None p = p
  drop_keeps flat (Some s) p = p

  close_socket_keeps : (flat : Flat) (n : ℕ) (s : Socket) (t : State) → P flat.sections → Keeps (close_socket flat n s t)
  close_socket_keeps flat n s states.Full p =
      cond_both (has_slot flat) (changed flat (waiting s (moment_of flat.header n flat.sections)) replies.TimeWait) (removed flat s (replies.NoSlot flat.header.shape.slots 0)) Keeps
      (λ _. p) (λ _. p)
  close_socket_keeps flat n s _ p = p

  pub close_keeps : (flat : Flat) (n : ℕ) (o : Option Socket) → P flat.sections → Keeps (close flat n o)
  close_keeps flat n None p = p
  close_keeps flat n (Some s) p = close_socket_keeps flat n s s.owner.state p

  -- the sections as they are, and as a search leaves them
  module _ (flat : Flat) (n : ℕ) (p : P flat.sections) (q : P (draw flat n flat.header.offset).flat.sections) where
    bind_socket_keeps : (s : Socket) (t : State) (end : End) → Keeps (bind_socket flat n s t end)
    bind_socket_keeps s states.Unbound end =
        let found : Found = search_bind flat n s end.addr in
        cond_both (end.port == 0) (bind_any flat n s end.addr) (bind_given flat s end) Keeps
        (λ _. cond_both s.owner.noport (changed flat (at_address s end.addr) (replies.Port 0)) (bind_search flat n s end.addr) Keeps (λ _. p)
        (λ _. bind_found_keeps found s end.addr found.port q))
        (λ _. cond_both (is_refused (at_end s end).owner flat.sockets) (unchanged flat replies.Eaddrinuse) (changed flat (at_end s end) (replies.Port end.port)) Keeps (λ _. p) (λ _. p))
    bind_socket_keeps s _ end = p

    pub bind_keeps : (o : Option Socket) (end : End) → Keeps (bind flat n o end)
    bind_keeps None end = p
    bind_keeps (Some s) end = bind_socket_keeps s s.owner.state end

    listen_socket_keeps : (s : Socket) (t : State) → Keeps (listen_socket flat n s t)
    listen_socket_keeps s states.Unbound =
        let found : Found = search_bind flat n s s.owner.addr in listen_found_keeps found s found.port q
    listen_socket_keeps s states.Bound = listen_bound_keeps flat s p
    listen_socket_keeps s _ = p

    pub listen_keeps : (o : Option Socket) → Keeps (listen flat n o)
    listen_keeps None = p
    listen_keeps (Some s) = listen_socket_keeps s s.owner.state

    connect_from_keeps : (s : Socket) (to : End) (source : Option ℕ) → Keeps (connect_from flat n s to source)
    connect_from_keeps s to None = p
    connect_from_keeps s to (Some source) =
        let new : Socket = connected_socket s source to in
        cond_both (is_taken_in flat n new) (unchanged flat replies.Eaddrnotavail) (connect_as flat new) Keeps (λ _. p) (λ _. connect_as_keeps flat new p)

    connect_search_keeps : (s : Socket) (to : End) (source : Option ℕ) → Keeps (connect_search flat n s to source)
    connect_search_keeps s to None = p
    connect_search_keeps s to (Some source) =
        let found : Found = search_port flat n firsts.Even (suits_connect flat n s source to) in
        connect_found_keeps found s source to found.port q

    connect_socket_keeps : (s : Socket) (t : State) (from : Option ℕ) (to : End) → Keeps (connect_socket flat n s t from to)
    connect_socket_keeps s states.Bound from to =
        cond_both (is_no_end to) (unchanged flat replies.Einval) (connect_from flat n s to (source_of s.owner.addr from)) Keeps (λ _. p)
        (λ _. connect_from_keeps s to (source_of s.owner.addr from))
    connect_socket_keeps s states.Unbound from to =
        cond_both (is_no_end to) (unchanged flat replies.Einval) (connect_search flat n s to (source_of s.owner.addr from)) Keeps (λ _. p)
        (λ _. connect_search_keeps s to (source_of s.owner.addr from))
    connect_socket_keeps s _ from to = p

    pub connect_keeps : (o : Option Socket) (from : Option ℕ) (to : End) → Keeps (connect flat n o from to)
    connect_keeps None from to = p
    connect_keeps (Some s) from to = connect_socket_keeps s s.owner.state from to
