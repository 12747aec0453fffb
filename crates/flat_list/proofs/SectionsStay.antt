-- A command changes no header, and no section but its own.
use Rattle.std.proofs.Common.{◌≡◌, ◌≢◌, ℕ, ◌==◌, ◌∙◌, List, Bool, false, not, nat_lt, cond, if◌then◌else◌, Some, None, Option, find, refl, sym, ap}
use Rattle.std.proofs.lemmas.Bool.{ne_eqb, cond_both}
use Rattle.sock_card.specs.declared.owner.State.{State}
use Rattle.sock_card.specs.declared.owner.State.TheVariants as states
use Rattle.flat_list.specs.declared.header.First.TheVariants as firsts
use Rattle.flat_list.specs.declared.socket.Socket.{Socket}
use Rattle.flat_list.specs.declared.command.End.{End}
use Rattle.flat_list.specs.declared.command.Command.{Command}
use Rattle.flat_list.specs.declared.command.Command.TheVariants as commands
use Rattle.flat_list.specs.declared.command.Reply.TheVariants as replies
use Rattle.flat_list.specs.Flat.{Flat}
use Rattle.flat_list.specs.Outcome.{added, removed, with_new_label, Outcome, unchanged, changed, open_socket, has_slot, no_slot, draw, Found, search_port}
use Rattle.flat_list.specs.Sections.{moment_of, at_moment, with_moment, past_word, next_name, Section, section_of, put_section, has_number, with_label}
use Rattle.flat_list.specs.Sockets.{is_refused, has_twin, open_in}
use Rattle.flat_list.specs.Groups.{Group}
use Rattle.flat_list.specs.Connect.{connected_socket, end_of, replacing, is_taken_in, connect, connect_as, connect_from, connect_found, connect_search, connect_socket, connected_by_search, suits_connect, child_of, accept, accept_as, request_of, syn, heir_of, without_request, hand_over, ack_by, ack_socket, ack}
use Rattle.flat_list.specs.Owned.{source_of, is_no_end, is_no_accept, is_no_ack}
use Rattle.flat_list.specs.Step.{drop, step, at_end, at_port, at_address, bind, bind_any, bind_given, bind_found, bind_search, bind_socket, search_bind, listen, listens_in, listen_as, groups_with, listen_bound, listen_found, listen_socket, waiting, close, close_socket, at}
use Rattle.flat_list.proofs.LabelsGrow.{numbered, find_put}

-- the header is as it was, and so is each section but that of number n
abbrev pub Stays : ℕ → Flat → Flat → Type 0
Stays n first new =
    (new.header ≡ first.header)
    × ((m : ℕ) → m ≢ n → find (has_number m) new.sections ≡ find (has_number m) first.sections)

-- sections in which one was put
put_other : (n m : ℕ) (s : Section) (xs : List Section) → s.number ≡ n → m ≢ n → find (has_number m) (put_section s xs) ≡ find (has_number m) xs
put_other n m s xs is apart =
    let no : has_number m s ≡ false = ne_eqb s.number m (λ e. apart (sym e ∙ is)) in
    find_put m s xs ∙ ap (λ (b : Bool). cond b (Some s) (find (has_number m) xs)) no

-- the flat list with one section changed
abbrev put_in : Flat → Section → Flat
put_in flat s = record flat { sections = put_section s flat.sections }

put_stays : (flat : Flat) (n : ℕ) (s : Section) → s.number ≡ n → Stays n flat (put_in flat s)
put_stays flat n s is = (refl, λ m apart. put_other n m s flat.sections is apart)

same : (n : ℕ) (flat : Flat) → Stays n flat flat
same n flat = (refl, λ m apart. refl)

draw_stays : (flat : Flat) (n : ℕ) (offset : Option ℕ) → Stays n flat (draw flat n offset).flat
draw_stays flat n (Some offset) = same n flat
draw_stays flat n None =
    put_stays flat n (past_word (section_of flat.header n flat.sections)) (numbered flat.header n flat.sections)

module _ (n : ℕ) (first : Flat) where
  abbrev Stay : Outcome → Type 0
  Stay o = Stays n first o.flat

  listen_as_stays : (flat : Flat) (s : Socket) (groups : Option (List Group)) → Stays n first flat → Stay (listen_as flat s groups)
  listen_as_stays flat s None stays = stays
  listen_as_stays flat s (Some groups) stays =
      cond_both (not (has_slot flat)) (no_slot flat) (listens_in flat s groups) Stay (λ _. stays) (λ _. stays)

  listen_bound_stays : (flat : Flat) (s : Socket) → Stays n first flat → Stay (listen_bound flat s)
  listen_bound_stays flat s stays =
      cond_both (is_refused s.owner flat.sockets) (unchanged flat replies.Eaddrinuse) (listen_as flat s (groups_with flat s)) Stay (λ _. stays)
      (λ _. listen_as_stays flat s (groups_with flat s) stays)

  connect_as_stays : (flat : Flat) (new : Socket) → Stays n first flat → Stay (connect_as flat new)
  connect_as_stays flat new stays =
      cond_both (not (has_slot flat)) (no_slot flat) (changed (replacing flat new.owner) new (replies.End (end_of new))) Stay (λ _. stays) (λ _. stays)

  bind_found_stays : (found : Found) (s : Socket) (addr : ℕ) (port : Option ℕ) → Stays n first found.flat → Stay (bind_found found s addr port)
  bind_found_stays found s addr None stays = stays
  bind_found_stays found s addr (Some port) stays = stays

  listen_found_stays : (found : Found) (s : Socket) (port : Option ℕ) → Stays n first found.flat → Stay (listen_found found s port)
  listen_found_stays found s None stays = stays
  listen_found_stays found s (Some port) stays = listen_bound_stays found.flat (at_port s s.owner.addr port) stays

  connect_found_stays : (found : Found) (s : Socket) (source : ℕ) (to : End) (port : Option ℕ) → Stays n first found.flat → Stay (connect_found found s source to port)
  connect_found_stays found s source to None stays = stays
  connect_found_stays found s source to (Some port) stays = connect_as_stays found.flat (connected_by_search s source to port) stays

module _ (n : ℕ) (flat : Flat) where
  bind_stays : (s : Socket) (t : State) (end : End) → Stay n flat (bind_socket flat n s t end)
  bind_stays s states.Unbound end =
      let found : Found = search_bind flat n s end.addr in
      cond_both (end.port == 0) (bind_any flat n s end.addr) (bind_given flat s end) (Stay n flat)
      (λ _. cond_both s.owner.noport (changed flat (at_address s end.addr) (replies.Port 0)) (bind_search flat n s end.addr) (Stay n flat) (λ _. same n flat)
      (λ _. bind_found_stays n flat found s end.addr found.port (draw_stays flat n flat.header.offset)))
      (λ _. cond_both (is_refused (at_end s end).owner flat.sockets) (unchanged flat replies.Eaddrinuse) (changed flat (at_end s end) (replies.Port end.port)) (Stay n flat) (λ _. same n flat) (λ _. same n flat))
  bind_stays s _ end = same n flat

  bind_all : (o : Option Socket) (end : End) → Stay n flat (bind flat n o end)
  bind_all None end = same n flat
  bind_all (Some s) end = bind_stays s s.owner.state end

  listen_stays : (s : Socket) (t : State) → Stay n flat (listen_socket flat n s t)
  listen_stays s states.Unbound =
      let found : Found = search_bind flat n s s.owner.addr in listen_found_stays n flat found s found.port (draw_stays flat n flat.header.offset)
  listen_stays s states.Bound = listen_bound_stays n flat flat s (same n flat)
  listen_stays s _ = same n flat

  listen_all : (o : Option Socket) → Stay n flat (listen flat n o)
  listen_all None = same n flat
  listen_all (Some s) = listen_stays s s.owner.state

  connect_from_stays : (s : Socket) (to : End) (source : Option ℕ) → Stay n flat (connect_from flat n s to source)
  connect_from_stays s to None = same n flat
  connect_from_stays s to (Some source) =
      let new : Socket = connected_socket s source to in
      cond_both (is_taken_in flat n new) (unchanged flat replies.Eaddrnotavail) (connect_as flat new) (Stay n flat) (λ _. same n flat) (λ _. connect_as_stays n flat flat new (same n flat))

  connect_search_stays : (s : Socket) (to : End) (source : Option ℕ) → Stay n flat (connect_search flat n s to source)
  connect_search_stays s to None = same n flat
  connect_search_stays s to (Some source) =
      let found : Found = search_port flat n firsts.Even (suits_connect flat n s source to) in
      connect_found_stays n flat found s source to found.port (draw_stays flat n flat.header.offset)

  connect_stays : (s : Socket) (t : State) (from : Option ℕ) (to : End) → Stay n flat (connect_socket flat n s t from to)
  connect_stays s states.Bound from to =
      cond_both (is_no_end to) (unchanged flat replies.Einval) (connect_from flat n s to (source_of s.owner.addr from)) (Stay n flat) (λ _. same n flat)
      (λ _. connect_from_stays s to (source_of s.owner.addr from))
  connect_stays s states.Unbound from to =
      cond_both (is_no_end to) (unchanged flat replies.Einval) (connect_search flat n s to (source_of s.owner.addr from)) (Stay n flat) (λ _. same n flat)
      (λ _. connect_search_stays s to (source_of s.owner.addr from))
  connect_stays s _ from to = same n flat

  connect_all : (o : Option Socket) (from : Option ℕ) (to : End) → Stay n flat (connect flat n o from to)
  connect_all None from to = same n flat
  connect_all (Some s) from to = connect_stays s s.owner.state from to

  accept_as_stays : (labelled : Flat) (new : Socket) → Stays n flat labelled → Stay n flat (accept_as labelled new)
  accept_as_stays labelled new stays =
      let done : Outcome = added (replacing labelled new.owner) new replies.Ok in
      cond_both (has_twin new.owner labelled.sockets) (unchanged labelled replies.Eaddrnotavail) (if not (has_slot labelled) then no_slot labelled else done) (Stay n flat) (λ _. stays)
      (λ _. cond_both (not (has_slot labelled)) (no_slot labelled) done (Stay n flat) (λ _. stays) (λ _. stays))

  accept_all : (labelled : Flat) (name : ℕ) (o : Option Socket) (from at : End) → Stays n flat labelled → Stay n flat (accept labelled name o from at)
  accept_all labelled name None from at stays = stays
  accept_all labelled name (Some l) from at stays =
      let child : Socket = child_of l name from at in
      cond_both (is_no_accept l.owner from at) (unchanged labelled replies.Einval) (accept_as labelled child) (Stay n flat) (λ _. stays) (λ _. accept_as_stays labelled child stays)

  syn_all : (labelled : Flat) (name : ℕ) (o : Option Socket) (from at : End) → Stays n flat labelled → Stay n flat (syn labelled name o from at)
  syn_all labelled name None from at stays = stays
  syn_all labelled name (Some l) from at stays =
      let request : Socket = request_of l name from at in
      cond_both (is_no_accept l.owner from at) (unchanged labelled replies.Einval) (accept_as labelled request) (Stay n flat) (λ _. stays) (λ _. accept_as_stays labelled request stays)

  ack_by_stays : (labelled : Flat) (name : ℕ) (r : Socket) (o : Option Socket) → Stays n flat labelled → Stay n flat (ack_by labelled name r o)
  ack_by_stays labelled name r None stays = stays
  ack_by_stays labelled name r (Some l) stays =
      let child : Socket = heir_of l name r in
      let done : Outcome = added (without_request labelled r) child replies.Ok in
      cond_both (is_no_ack l.owner r.owner) (unchanged labelled replies.Einval) (hand_over labelled r child) (Stay n flat) (λ _. stays)
      (λ _. cond_both (not (has_slot labelled)) (no_slot labelled) done (Stay n flat) (λ _. stays) (λ _. stays))

  ack_stays : (labelled : Flat) (name : ℕ) (r : Socket) (t : State) → Stays n flat labelled → Stay n flat (ack_socket labelled n name r t)
  ack_stays labelled name r states.Request stays = ack_by_stays labelled name r (open_in n r.owner.origin labelled.sockets) stays
  ack_stays labelled name r _ stays = stays

  ack_all : (labelled : Flat) (name : ℕ) (o : Option Socket) → Stays n flat labelled → Stay n flat (ack labelled n name o)
  ack_all labelled name None stays = stays
  ack_all labelled name (Some r) stays = ack_stays labelled name r r.owner.state stays

  drop_all : (o : Option Socket) → Stay n flat (drop flat o)
  drop_all None = same n flat
  drop_all (Some s) = same n flat

  close_stays : (s : Socket) (t : State) → Stay n flat (close_socket flat n s t)
  close_stays s states.Full =
      cond_both (has_slot flat) (changed flat (waiting s (moment_of flat.header n flat.sections)) replies.TimeWait) (removed flat s (replies.NoSlot flat.header.shape.slots 0)) (Stay n flat)
      (λ _. same n flat) (λ _. same n flat)
  close_stays s _ = same n flat

  close_all : (o : Option Socket) → Stay n flat (close flat n o)
  close_all None = same n flat
  close_all (Some s) = close_stays s s.owner.state

  at_all : (moment : ℕ) → Stay n flat (at flat n moment)
  at_all moment =
      cond_both (nat_lt moment (moment_of flat.header n flat.sections)) (unchanged flat replies.Einval)
      (unchanged (record flat { sections = with_moment flat.header n moment flat.sections }) replies.Ok) (Stay n flat)
      (λ _. same n flat) (λ _. put_stays flat n (at_moment moment (section_of flat.header n flat.sections)) (numbered flat.header n flat.sections))

  labelled_stays : (label : List ℕ) → Stays n flat (with_new_label flat n label)
  labelled_stays label =
      put_stays flat n (with_label label (section_of flat.header n flat.sections)) (numbered flat.header n flat.sections)

pub step_stays : (flat : Flat) (n : ℕ) (c : Command) → Stays n flat (step flat n c).flat
unfolding step
step_stays flat n (commands.Socket label options) = labelled_stays n flat label
step_stays flat n (commands.Bind label end) = bind_all n flat (open_socket flat n label) end
step_stays flat n (commands.Listen label) = listen_all n flat (open_socket flat n label)
step_stays flat n (commands.Connect label from to) = connect_all n flat (open_socket flat n label) from to
step_stays flat n (commands.Accept listener label from at) =
    accept_all n flat (with_new_label flat n label) (next_name n flat.sections) (open_socket flat n listener) from at (labelled_stays n flat label)
step_stays flat n (commands.Syn listener label from at) =
    syn_all n flat (with_new_label flat n label) (next_name n flat.sections) (open_socket flat n listener) from at (labelled_stays n flat label)
step_stays flat n (commands.Ack request label) =
    ack_all n flat (with_new_label flat n label) (next_name n flat.sections) (open_socket flat n request) (labelled_stays n flat label)
step_stays flat n (commands.Drop label) = drop_all n flat (open_socket flat n label)
step_stays flat n (commands.Close label) = close_all n flat (open_socket flat n label)
step_stays flat n (commands.At moment) = at_all n flat moment
step_stays flat n commands.Reap = same n flat
step_stays flat n (commands.Look query) = same n flat
step_stays flat n (commands.Packets count) = same n flat
step_stays flat n commands.Dump = same n flat
