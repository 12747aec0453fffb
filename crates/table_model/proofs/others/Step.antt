-- What a section knows of its own sockets is what the list says of them, also after a command of another section.
use Rattle.std.proofs.Common.{◌≡◌, ◌≢◌, ℕ, ◌+◌, ◌/◌, ◌^◌, ◌<◌, ◌==◌, true, ◌&&◌, not, List, length, Option, Some, None, refl, ap, sym, ◌∙◌, subst, arith, nat_lt, if◌then◌else◌}
use Rattle.std.specs.Prelude.{option_and_then, position, bytes_eq}
use Rattle.std.specs.Option.{option_map}
use Rattle.std.proofs.lemmas.Bool.{eqb-true, and_parts, cond_both, not-false}
use Rattle.list_words.proofs.EachLemmas.{found_passes}
use Rattle.sock_card.specs.declared.owner.Owner.{Owner}
use Rattle.sock_card.specs.declared.owner.State.{State}
use Rattle.sock_card.specs.declared.owner.State.TheVariants as states
use Rattle.sock_card.specs.Conflict.{is_time_wait}
use Rattle.sock_card.specs.TimeWait.{expired}
use Rattle.flat_list.specs.declared.header.First.TheVariants as firsts
use Rattle.flat_list.specs.declared.socket.Socket.{Socket}
use Rattle.flat_list.specs.declared.command.End.{End}
use Rattle.flat_list.specs.declared.command.Command.{Command}
use Rattle.flat_list.specs.declared.command.Command.TheVariants as commands
use Rattle.flat_list.specs.declared.command.Reply.TheVariants as replies
use Rattle.flat_list.specs.Flat.{Flat}
use Rattle.flat_list.specs.Groups.{Group}
use Rattle.flat_list.specs.Outcome.{added, removed, with_new_label, Outcome, unchanged, changed, open_socket, has_slot, no_slot, Found, search_port}
use Rattle.flat_list.specs.Sections.{moment_of, next_name, name_at, labels_of, with_moment}
use Rattle.flat_list.specs.Sockets.{is_refused, has_twin, has_name, open_named, open_in, without, without_waiting, is_expired}
use Rattle.flat_list.specs.Sound.{IsSound}
use Rattle.flat_list.specs.Connect.{connected_socket, end_of, replacing, is_taken_in, connect, connect_as, connect_from, connect_found, connect_search, connect_socket, connected_by_search, suits_connect, child_of, request_of, heir_of, accept, accept_as, syn, without_request, hand_over, ack_by, ack_socket, ack}
use Rattle.flat_list.specs.Owned.{source_of, is_no_end, is_no_accept, is_no_ack}
use Rattle.flat_list.specs.Step.{drop, step, new_socket, at_end, at_port, bind, at_address, bind_any, bind_given, bind_found, bind_search, bind_socket, search_bind, listening, listen, listens_in, listen_as, groups_with, listen_bound, listen_found, listen_socket, waiting, close, close_socket, at, reap}
use Rattle.flat_list.proofs.Searches.{draw_sockets}
use Rattle.table_model.specs.Tables.{Tables}
use Rattle.table_model.specs.Own.{Own}
use Rattle.table_model.specs.Means.{OwnMeans}
use Rattle.table_model.proofs.parts.OpenSocket.{placed}
use Rattle.table_model.proofs.others.Sockets.{Rest, rest_of, rest_put, rest_filter, rest_added, rest_without, waits_gone}

-- a section's name
abbrev IsOf : ℕ → ℕ → Type 0
IsOf n name = name / 2 ^ 56 ≡ n

abbrev AreOf : ℕ → Option Socket → Type 0
AreOf n None = Unit {0}
AreOf n (Some s) = IsOf n s.owner.name

name_of : (n k : ℕ) → k + 1 < 2 ^ 56 → IsOf n (name_at n k)
name_of n k few = omega arith

found_of : (n name : ℕ) (sockets : List Socket) (o : Option Socket) → IsOf n name → open_named name sockets ≡ o → AreOf n o
found_of n name sockets None is e = tt
found_of n name sockets (Some s) is e =
    ap (λ k. k / 2 ^ 56) (eqb-true s.owner.name name (and_parts (has_name name s) s.named (found_passes (λ x. has_name name x && x.named) sockets s e)).0) ∙ is

labelled_of : (n : ℕ) (sockets : List Socket) (labels : List (List ℕ)) (label : List ℕ) (o : Option ℕ) → position (λ l. bytes_eq l label) labels ≡ o → length labels + 1 < 2 ^ 56
    → AreOf n (option_and_then (λ name. open_named name sockets) (option_map (name_at n) o))
labelled_of n sockets labels label None e few = tt
labelled_of n sockets labels label (Some k) e few =
    let less : k < length labels = placed (λ l. bytes_eq l label) labels k e in
    found_of n (name_at n k) sockets (open_named (name_at n k) sockets) (name_of n k (omega (arith, less, few))) refl

-- the open socket that a label names has a name of the section
open_of : (n : ℕ) (flat : Flat) (label : List ℕ) → length (labels_of n flat.sections) + 1 < 2 ^ 56 → AreOf n (open_socket flat n label)
open_of n flat label few =
    labelled_of n flat.sockets (labels_of n flat.sections) label (position (λ l. bytes_eq l label) (labels_of n flat.sections)) refl few

module _ (n m : ℕ) (apart : m ≢ n) (other : Own) (t : Tables) (flat : Flat) (own_is : OwnMeans m other t flat) (sound : IsSound flat) where
  abbrev R : List Socket → Type 0
  R sockets = Rest m other sockets

  abbrev Stay : Outcome → Type 0
  Stay o = R o.flat.sockets

  here : R flat.sockets
  here = rest_of m other t flat own_is

  module _ (x : Flat) (same : x.sockets ≡ flat.sockets) where
    there : R x.sockets
    there = subst R (sym same) here

    changed_rest : (new : Socket) → IsOf n new.owner.name → Stay (changed x new replies.Ok)
    changed_rest new is = rest_put n m apart other own_is.given new x.sockets is there

    replaced_rest : (a : Owner) → R (without_waiting a x.sockets)
    replaced_rest a =
        subst (λ sockets. R (without_waiting a sockets)) (sym same)
        (waits_gone n m apart other own_is.given t flat own_is sound a _ refl)

    connect_as_rest : (new : Socket) → IsOf n new.owner.name → Stay (connect_as x new)
    connect_as_rest new is =
        cond_both (not (has_slot x)) (no_slot x) (changed (replacing x new.owner) new (replies.End (end_of new))) Stay (λ _. there)
        (λ _. rest_put n m apart other own_is.given new (without_waiting new.owner x.sockets) is (replaced_rest new.owner))

    listen_as_rest : (s : Socket) (groups : Option (List Group)) → IsOf n s.owner.name → Stay (listen_as x s groups)
    listen_as_rest s None is = there
    listen_as_rest s (Some groups) is =
        cond_both (not (has_slot x)) (no_slot x) (listens_in x s groups) Stay (λ _. there) (λ _. changed_rest (listening s) is)

    listen_bound_rest : (s : Socket) → IsOf n s.owner.name → Stay (listen_bound x s)
    listen_bound_rest s is =
        cond_both (is_refused s.owner x.sockets) (unchanged x replies.Eaddrinuse) (listen_as x s (groups_with x s)) Stay (λ _. there)
        (λ _. listen_as_rest s (groups_with x s) is)

    beside_rest : (new : Socket) → IsOf n new.owner.name → Stay (accept_as x new)
    beside_rest new is =
        let done : Outcome = added (replacing x new.owner) new replies.Ok in
        cond_both (has_twin new.owner x.sockets) (unchanged x replies.Eaddrnotavail) (if not (has_slot x) then no_slot x else done) Stay (λ _. there)
        (λ _. cond_both (not (has_slot x)) (no_slot x) done Stay (λ _. there)
        (λ _. rest_added n m apart other own_is.given new (without_waiting new.owner x.sockets) is (replaced_rest new.owner)))

    accept_rest : (name : ℕ) (o : Option Socket) (from at : End) → IsOf n name → Stay (accept x name o from at)
    accept_rest name None from at is = there
    accept_rest name (Some l) from at is =
        cond_both (is_no_accept l.owner from at) (unchanged x replies.Einval) (accept_as x (child_of l name from at)) Stay (λ _. there)
        (λ _. beside_rest (child_of l name from at) is)

    syn_rest : (name : ℕ) (o : Option Socket) (from at : End) → IsOf n name → Stay (syn x name o from at)
    syn_rest name None from at is = there
    syn_rest name (Some l) from at is =
        cond_both (is_no_accept l.owner from at) (unchanged x replies.Einval) (accept_as x (request_of l name from at)) Stay (λ _. there)
        (λ _. beside_rest (request_of l name from at) is)

    hand_over_rest : (r child : Socket) → IsOf n r.owner.name → IsOf n child.owner.name → Stay (hand_over x r child)
    hand_over_rest r child gone is =
        cond_both (not (has_slot x)) (no_slot x) (added (without_request x r) child replies.Ok) Stay (λ _. there)
        (λ _. rest_added n m apart other own_is.given child (without r.owner.name x.sockets) is (rest_without n m apart other own_is.given r x.sockets gone there))

    ack_by_rest : (name : ℕ) (r : Socket) (o : Option Socket) → IsOf n r.owner.name → IsOf n name → Stay (ack_by x name r o)
    ack_by_rest name r None gone is = there
    ack_by_rest name r (Some l) gone is =
        cond_both (is_no_ack l.owner r.owner) (unchanged x replies.Einval) (hand_over x r (heir_of l name r)) Stay (λ _. there) (λ _. hand_over_rest r (heir_of l name r) gone is)

    ack_rest : (name : ℕ) (r : Socket) (state : State) → IsOf n r.owner.name → IsOf n name → Stay (ack_socket x n name r state)
    ack_rest name r states.Request gone is = ack_by_rest name r (open_in n r.owner.origin x.sockets) gone is
    ack_rest name r states.Unbound gone is = there
    ack_rest name r states.Bound gone is = there
    ack_rest name r states.Listening gone is = there
    ack_rest name r states.Full gone is = there
    ack_rest name r states.TimeWait gone is = there

    ack_all : (name : ℕ) (o : Option Socket) → AreOf n o → IsOf n name → Stay (ack x n name o)
    ack_all name None gone is = there
    ack_all name (Some r) gone is = ack_rest name r r.owner.state gone is

  bind_found_rest : (found : Found) → found.flat.sockets ≡ flat.sockets → (s : Socket) (addr : ℕ) (port : Option ℕ) → IsOf n s.owner.name → Stay (bind_found found s addr port)
  bind_found_rest found same s addr None is = there found.flat same
  bind_found_rest found same s addr (Some port) is = changed_rest found.flat same (at_port s addr port) is

  listen_found_rest : (found : Found) → found.flat.sockets ≡ flat.sockets → (s : Socket) (port : Option ℕ) → IsOf n s.owner.name → Stay (listen_found found s port)
  listen_found_rest found same s None is = there found.flat same
  listen_found_rest found same s (Some port) is = listen_bound_rest found.flat same (at_port s s.owner.addr port) is

  connect_found_rest : (found : Found) → found.flat.sockets ≡ flat.sockets → (s : Socket) (source : ℕ) (to : End) (port : Option ℕ) → IsOf n s.owner.name → Stay (connect_found found s source to port)
  connect_found_rest found same s source to None is = there found.flat same
  connect_found_rest found same s source to (Some port) is = connect_as_rest found.flat same (connected_by_search s source to port) is

  bind_rest : (s : Socket) (state : State) (end : End) → IsOf n s.owner.name → Stay (bind_socket flat n s state end)
  bind_rest s states.Unbound end is =
      let found : Found = search_bind flat n s end.addr in
      cond_both (end.port == 0) (bind_any flat n s end.addr) (bind_given flat s end) Stay
      (λ _. cond_both s.owner.noport (changed flat (at_address s end.addr) (replies.Port 0)) (bind_search flat n s end.addr) Stay
      (λ _. changed_rest flat refl (at_address s end.addr) is)
      (λ _. bind_found_rest found (draw_sockets flat n flat.header.offset) s end.addr found.port is))
      (λ _. cond_both (is_refused (at_end s end).owner flat.sockets) (unchanged flat replies.Eaddrinuse) (changed flat (at_end s end) (replies.Port end.port)) Stay (λ _. here)
      (λ _. changed_rest flat refl (at_end s end) is))
  bind_rest s states.Bound end is = here
  bind_rest s states.Listening end is = here
  bind_rest s states.Full end is = here
  bind_rest s states.TimeWait end is = here
  bind_rest s states.Request end is = here

  bind_all : (o : Option Socket) (end : End) → AreOf n o → Stay (bind flat n o end)
  bind_all None end is = here
  bind_all (Some s) end is = bind_rest s s.owner.state end is

  listen_rest : (s : Socket) (state : State) → IsOf n s.owner.name → Stay (listen_socket flat n s state)
  listen_rest s states.Unbound is =
      let found : Found = search_bind flat n s s.owner.addr in listen_found_rest found (draw_sockets flat n flat.header.offset) s found.port is
  listen_rest s states.Bound is = listen_bound_rest flat refl s is
  listen_rest s states.Listening is = here
  listen_rest s states.Full is = here
  listen_rest s states.TimeWait is = here
  listen_rest s states.Request is = here

  listen_all : (o : Option Socket) → AreOf n o → Stay (listen flat n o)
  listen_all None is = here
  listen_all (Some s) is = listen_rest s s.owner.state is

  connect_from_rest : (s : Socket) (to : End) (source : Option ℕ) → IsOf n s.owner.name → Stay (connect_from flat n s to source)
  connect_from_rest s to None is = here
  connect_from_rest s to (Some source) is =
      let new : Socket = connected_socket s source to in
      cond_both (is_taken_in flat n new) (unchanged flat replies.Eaddrnotavail) (connect_as flat new) Stay (λ _. here) (λ _. connect_as_rest flat refl new is)

  connect_search_rest : (s : Socket) (to : End) (source : Option ℕ) → IsOf n s.owner.name → Stay (connect_search flat n s to source)
  connect_search_rest s to None is = here
  connect_search_rest s to (Some source) is =
      let found : Found = search_port flat n firsts.Even (suits_connect flat n s source to) in
      connect_found_rest found (draw_sockets flat n flat.header.offset) s source to found.port is

  connect_rest : (s : Socket) (state : State) (from : Option ℕ) (to : End) → IsOf n s.owner.name → Stay (connect_socket flat n s state from to)
  connect_rest s states.Bound from to is =
      cond_both (is_no_end to) (unchanged flat replies.Einval) (connect_from flat n s to (source_of s.owner.addr from)) Stay (λ _. here)
      (λ _. connect_from_rest s to (source_of s.owner.addr from) is)
  connect_rest s states.Unbound from to is =
      cond_both (is_no_end to) (unchanged flat replies.Einval) (connect_search flat n s to (source_of s.owner.addr from)) Stay (λ _. here)
      (λ _. connect_search_rest s to (source_of s.owner.addr from) is)
  connect_rest s states.Listening from to is = here
  connect_rest s states.Full from to is = here
  connect_rest s states.TimeWait from to is = here
  connect_rest s states.Request from to is = here

  connect_all : (o : Option Socket) (from : Option ℕ) (to : End) → AreOf n o → Stay (connect flat n o from to)
  connect_all None from to is = here
  connect_all (Some s) from to is = connect_rest s s.owner.state from to is

  removed_rest : (s : Socket) → IsOf n s.owner.name → R (without s.owner.name flat.sockets)
  removed_rest s is = rest_without n m apart other own_is.given s flat.sockets is here

  drop_all : (o : Option Socket) → AreOf n o → Stay (drop flat o)
  drop_all None is = here
  drop_all (Some s) is = removed_rest s is

  close_rest : (s : Socket) (state : State) → IsOf n s.owner.name → Stay (close_socket flat n s state)
  close_rest s states.Full is =
      cond_both (has_slot flat) (changed flat (waiting s (moment_of flat.header n flat.sections)) replies.TimeWait) (removed flat s (replies.NoSlot flat.header.shape.slots 0)) Stay
      (λ _. changed_rest flat refl (waiting s (moment_of flat.header n flat.sections)) is) (λ _. removed_rest s is)
  close_rest s states.Unbound is = removed_rest s is
  close_rest s states.Bound is = removed_rest s is
  close_rest s states.Listening is = removed_rest s is
  close_rest s states.TimeWait is = removed_rest s is
  close_rest s states.Request is = removed_rest s is

  close_all : (o : Option Socket) → AreOf n o → Stay (close flat n o)
  close_all None is = here
  close_all (Some s) is = close_rest s s.owner.state is

  at_all : (moment : ℕ) → Stay (at flat n moment)
  at_all moment =
      cond_both (nat_lt moment (moment_of flat.header n flat.sections)) (unchanged flat replies.Einval)
      (unchanged (record flat { sections = with_moment flat.header n moment flat.sections }) replies.Ok) Stay (λ _. here) (λ _. here)

  reap_rest : Stay (reap flat n)
  reap_rest =
      let moment : ℕ = moment_of flat.header n flat.sections in
      rest_filter n m apart other own_is.given (λ s. not (is_expired n moment s)) flat.sockets
      (λ x e.
      let over : is_expired n moment x ≡ true = not-false (is_expired n moment x) e in
      eqb-true (x.owner.name / 2 ^ 56) n
      (and_parts (is_time_wait x.owner.state) (x.owner.name / 2 ^ 56 == n) (and_parts (is_time_wait x.owner.state && (x.owner.name / 2 ^ 56 == n)) (expired x.stamp moment) over).0).1)
      here

  -- after any command of section n
  pub step_rest : (c : Command) → length (labels_of n flat.sections) + 1 < 2 ^ 56 → R (step flat n c).flat.sockets
  unfolding step
  step_rest (commands.Socket label options) few =
      rest_added n m apart other own_is.given (new_socket (next_name n flat.sections) options) flat.sockets (name_of n (length (labels_of n flat.sections)) few) here
  step_rest (commands.Bind label end) few = bind_all (open_socket flat n label) end (open_of n flat label few)
  step_rest (commands.Listen label) few = listen_all (open_socket flat n label) (open_of n flat label few)
  step_rest (commands.Connect label from to) few = connect_all (open_socket flat n label) from to (open_of n flat label few)
  step_rest (commands.Accept listener label from at) few =
      accept_rest (with_new_label flat n label) refl (next_name n flat.sections) (open_socket flat n listener) from at (name_of n (length (labels_of n flat.sections)) few)
  step_rest (commands.Syn listener label from at) few =
      syn_rest (with_new_label flat n label) refl (next_name n flat.sections) (open_socket flat n listener) from at (name_of n (length (labels_of n flat.sections)) few)
  step_rest (commands.Ack request label) few =
      ack_all (with_new_label flat n label) refl (next_name n flat.sections) (open_socket flat n request) (open_of n flat request few) (name_of n (length (labels_of n flat.sections)) few)
  step_rest (commands.Drop label) few = drop_all (open_socket flat n label) (open_of n flat label few)
  step_rest (commands.Close label) few = close_all (open_socket flat n label) (open_of n flat label few)
  step_rest (commands.At moment) few = at_all moment
  step_rest commands.Reap few = reap_rest
  step_rest (commands.Look query) few = here
  step_rest (commands.Packets count) few = here
  step_rest commands.Dump few = here
