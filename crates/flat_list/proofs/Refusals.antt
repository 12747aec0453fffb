-- A refusal keeps all sockets and groups.
use Rattle.std.proofs.Common.{◌≡◌, ℕ, ◌==◌, nat_lt, true, false, not, if◌then◌else◌, List, Option, Some, None, refl}
use Rattle.std.proofs.lemmas.Bool.{both_ways, cond_both}
use Rattle.sock_card.specs.declared.owner.State.{State}
use Rattle.sock_card.specs.declared.owner.State.TheVariants as states
use Rattle.flat_list.specs.declared.header.First.TheVariants as firsts
use Rattle.flat_list.specs.declared.socket.Socket.{Socket}
use Rattle.flat_list.specs.declared.command.End.{End}
use Rattle.flat_list.specs.declared.command.Command.TheVariants as commands
use Rattle.flat_list.specs.declared.command.Reply.TheVariants as replies
use Rattle.flat_list.specs.Connect.{connected_socket, end_of, replacing, is_taken_in, connect, connect_as, connect_from, connect_found, connect_search, connect_socket, connected_by_search, suits_connect, child_of, accept, accept_as, request_of, syn, heir_of, without_request, hand_over, ack_by, ack_socket, ack}
use Rattle.flat_list.specs.Flat.{Flat}
use Rattle.flat_list.specs.Groups.{Group}
use Rattle.flat_list.specs.Outcome.{Outcome, unchanged, changed, added, removed, with_new_label, open_socket, has_slot, no_slot, draw, Found, search_port}
use Rattle.flat_list.specs.Owned.{source_of, is_no_end, is_no_accept, is_no_ack}
use Rattle.flat_list.specs.Sections.{next_name, moment_of, with_moment}
use Rattle.flat_list.specs.Sockets.{is_refused, has_twin, open_in}
use Rattle.flat_list.specs.Sound.{is_refusal, SameSockets, RefusalKeeps}
use Rattle.flat_list.specs.Step.{step, at_end, at_port, at_address, bind, bind_any, bind_given, bind_found, bind_search, bind_socket, search_bind, listen, listens_in, listen_as, groups_with, listen_bound, listen_found, listen_socket, waiting, close, close_socket, drop, at}
use Rattle.flat_list.proofs.Searches.{draw_sockets, draw_groups}

abbrev Keeps : Flat → Outcome → Type 0
Keeps first o = is_refusal o.reply ≡ true → SameSockets first o.flat

-- what is done is no refusal
done : (first : Flat) (o : Outcome) → is_refusal o.reply ≡ false → Keeps first o
done first o is h = absurd (both_ways (is_refusal o.reply) is h)

itself : (flat : Flat) → SameSockets flat flat
itself flat = record { sockets = refl; groups = refl }

drawn : (flat : Flat) (n : ℕ) → SameSockets flat (draw flat n flat.header.offset).flat
drawn flat n = record { sockets = draw_sockets flat n flat.header.offset; groups = draw_groups flat n flat.header.offset }

listen_as_keeps : (first flat : Flat) (s : Socket) (o : Option (List Group)) → SameSockets first flat → Keeps first (listen_as flat s o)
listen_as_keeps first flat s None same = λ _. same
listen_as_keeps first flat s (Some groups) same =
    cond_both (not (has_slot flat)) (no_slot flat) (listens_in flat s groups) (Keeps first) (λ _ _. same) (λ _. done first (listens_in flat s groups) refl)

listen_bound_keeps : (first flat : Flat) (s : Socket) → SameSockets first flat → Keeps first (listen_bound flat s)
listen_bound_keeps first flat s same =
    cond_both (is_refused s.owner flat.sockets) (unchanged flat replies.Eaddrinuse) (listen_as flat s (groups_with flat s)) (Keeps first) (λ _ _. same)
    (λ _. listen_as_keeps first flat s (groups_with flat s) same)

listen_found_keeps : (first : Flat) (found : Found) (s : Socket) (o : Option ℕ) → SameSockets first found.flat → Keeps first (listen_found found s o)
listen_found_keeps first found s None same = λ _. same
listen_found_keeps first found s (Some port) same = listen_bound_keeps first found.flat (at_port s s.owner.addr port) same

listen_keeps : (flat : Flat) (n : ℕ) (s : Socket) (t : State) → Keeps flat (listen_socket flat n s t)
listen_keeps flat n s states.Unbound =
    let found : Found = search_bind flat n s s.owner.addr in listen_found_keeps flat found s found.port (drawn flat n)
listen_keeps flat n s states.Bound = listen_bound_keeps flat flat s (itself flat)
listen_keeps flat n s _ = λ _. itself flat

listen_keeps_all : (flat : Flat) (n : ℕ) (o : Option Socket) → Keeps flat (listen flat n o)
listen_keeps_all flat n None = λ _. itself flat
listen_keeps_all flat n (Some s) = listen_keeps flat n s s.owner.state

bind_found_keeps : (first : Flat) (found : Found) (s : Socket) (addr : ℕ) (o : Option ℕ) → SameSockets first found.flat → Keeps first (bind_found found s addr o)
bind_found_keeps first found s addr None same = λ _. same
bind_found_keeps first found s addr (Some port) same = done first (bind_found found s addr (Some port)) refl

bind_keeps : (flat : Flat) (n : ℕ) (s : Socket) (t : State) (end : End) → Keeps flat (bind_socket flat n s t end)
bind_keeps flat n s states.Unbound end =
    let found : Found = search_bind flat n s end.addr in
    let bound : Outcome = changed flat (at_end s end) (replies.Port end.port) in
    let addressed : Outcome = changed flat (at_address s end.addr) (replies.Port 0) in
    cond_both (end.port == 0) (bind_any flat n s end.addr) (bind_given flat s end) (Keeps flat)
    (λ _. cond_both s.owner.noport addressed (bind_search flat n s end.addr) (Keeps flat) (λ _. done flat addressed refl)
    (λ _. bind_found_keeps flat found s end.addr found.port (drawn flat n)))
    (λ _. cond_both (is_refused (at_end s end).owner flat.sockets) (unchanged flat replies.Eaddrinuse) bound (Keeps flat) (λ _ _. itself flat) (λ _. done flat bound refl))
bind_keeps flat n s _ end = λ _. itself flat

bind_keeps_all : (flat : Flat) (n : ℕ) (o : Option Socket) (end : End) → Keeps flat (bind flat n o end)
bind_keeps_all flat n None end = λ _. itself flat
bind_keeps_all flat n (Some s) end = bind_keeps flat n s s.owner.state end

connect_as_keeps : (first flat : Flat) (new : Socket) → SameSockets first flat → Keeps first (connect_as flat new)
connect_as_keeps first flat new same =
    let made : Outcome = changed (replacing flat new.owner) new (replies.End (end_of new)) in
    cond_both (not (has_slot flat)) (no_slot flat) made (Keeps first) (λ _ _. same) (λ _. done first made refl)

connect_from_keeps : (flat : Flat) (n : ℕ) (s : Socket) (to : End) (source : Option ℕ) → Keeps flat (connect_from flat n s to source)
connect_from_keeps flat n s to None = λ _. itself flat
connect_from_keeps flat n s to (Some source) =
    let new : Socket = connected_socket s source to in
    cond_both (is_taken_in flat n new) (unchanged flat replies.Eaddrnotavail) (connect_as flat new) (Keeps flat) (λ _ _. itself flat) (λ _. connect_as_keeps flat flat new (itself flat))

connect_found_keeps : (first : Flat) (found : Found) (s : Socket) (source : ℕ) (to : End) (o : Option ℕ) → SameSockets first found.flat → Keeps first (connect_found found s source to o)
connect_found_keeps first found s source to None same = λ _. same
connect_found_keeps first found s source to (Some port) same = connect_as_keeps first found.flat (connected_by_search s source to port) same

connect_search_keeps : (flat : Flat) (n : ℕ) (s : Socket) (to : End) (source : Option ℕ) → Keeps flat (connect_search flat n s to source)
connect_search_keeps flat n s to None = λ _. itself flat
connect_search_keeps flat n s to (Some source) =
    let found : Found = search_port flat n firsts.Even (suits_connect flat n s source to) in
    connect_found_keeps flat found s source to found.port (drawn flat n)

connect_keeps : (flat : Flat) (n : ℕ) (s : Socket) (t : State) (from : Option ℕ) (to : End) → Keeps flat (connect_socket flat n s t from to)
connect_keeps flat n s states.Bound from to =
    cond_both (is_no_end to) (unchanged flat replies.Einval) (connect_from flat n s to (source_of s.owner.addr from)) (Keeps flat) (λ _ _. itself flat)
    (λ _. connect_from_keeps flat n s to (source_of s.owner.addr from))
connect_keeps flat n s states.Unbound from to =
    cond_both (is_no_end to) (unchanged flat replies.Einval) (connect_search flat n s to (source_of s.owner.addr from)) (Keeps flat) (λ _ _. itself flat)
    (λ _. connect_search_keeps flat n s to (source_of s.owner.addr from))
connect_keeps flat n s _ from to = λ _. itself flat

connect_keeps_all : (flat : Flat) (n : ℕ) (o : Option Socket) (from : Option ℕ) (to : End) → Keeps flat (connect flat n o from to)
connect_keeps_all flat n None from to = λ _. itself flat
connect_keeps_all flat n (Some s) from to = connect_keeps flat n s s.owner.state from to

accept_as_keeps : (first flat : Flat) (child : Socket) → SameSockets first flat → Keeps first (accept_as flat child)
accept_as_keeps first flat child same =
    let made : Outcome = added (replacing flat child.owner) child replies.Ok in
    cond_both (has_twin child.owner flat.sockets) (unchanged flat replies.Eaddrnotavail) (if not (has_slot flat) then no_slot flat else made) (Keeps first) (λ _ _. same)
    (λ _. cond_both (not (has_slot flat)) (no_slot flat) made (Keeps first) (λ _ _. same) (λ _. done first made refl))

accept_keeps : (first flat : Flat) (name : ℕ) (o : Option Socket) (from end : End) → SameSockets first flat → Keeps first (accept flat name o from end)
accept_keeps first flat name None from end same = λ _. same
accept_keeps first flat name (Some l) from end same =
    cond_both (is_no_accept l.owner from end) (unchanged flat replies.Einval) (accept_as flat (child_of l name from end)) (Keeps first) (λ _ _. same)
    (λ _. accept_as_keeps first flat (child_of l name from end) same)

syn_keeps : (first flat : Flat) (name : ℕ) (o : Option Socket) (from end : End) → SameSockets first flat → Keeps first (syn flat name o from end)
syn_keeps first flat name None from end same = λ _. same
syn_keeps first flat name (Some l) from end same =
    cond_both (is_no_accept l.owner from end) (unchanged flat replies.Einval) (accept_as flat (request_of l name from end)) (Keeps first) (λ _ _. same)
    (λ _. accept_as_keeps first flat (request_of l name from end) same)

hand_over_keeps : (first flat : Flat) (r child : Socket) → SameSockets first flat → Keeps first (hand_over flat r child)
hand_over_keeps first flat r child same =
    let made : Outcome = added (without_request flat r) child replies.Ok in
    cond_both (not (has_slot flat)) (no_slot flat) made (Keeps first) (λ _ _. same) (λ _. done first made refl)

ack_by_keeps : (first flat : Flat) (name : ℕ) (r : Socket) (o : Option Socket) → SameSockets first flat → Keeps first (ack_by flat name r o)
ack_by_keeps first flat name r None same = λ _. same
ack_by_keeps first flat name r (Some l) same =
    cond_both (is_no_ack l.owner r.owner) (unchanged flat replies.Einval) (hand_over flat r (heir_of l name r)) (Keeps first) (λ _ _. same)
    (λ _. hand_over_keeps first flat r (heir_of l name r) same)

ack_socket_keeps : (first flat : Flat) (n name : ℕ) (r : Socket) (t : State) → SameSockets first flat → Keeps first (ack_socket flat n name r t)
ack_socket_keeps first flat n name r states.Request same = ack_by_keeps first flat name r (open_in n r.owner.origin flat.sockets) same
ack_socket_keeps first flat n name r _ same = λ _. same

ack_keeps : (first flat : Flat) (n name : ℕ) (o : Option Socket) → SameSockets first flat → Keeps first (ack flat n name o)
ack_keeps first flat n name None same = λ _. same
ack_keeps first flat n name (Some r) same = ack_socket_keeps first flat n name r r.owner.state same

close_keeps : (flat : Flat) (n : ℕ) (s : Socket) (t : State) → Keeps flat (close_socket flat n s t)
close_keeps flat n s states.Full =
    let left : Outcome = changed flat (waiting s (moment_of flat.header n flat.sections)) replies.TimeWait in
    let gone : Outcome = removed flat s (replies.NoSlot flat.header.shape.slots 0) in
    cond_both (has_slot flat) left gone (Keeps flat) (λ _. done flat left refl) (λ _. done flat gone refl)
close_keeps flat n s _ = done flat (removed flat s replies.Ok) refl

close_keeps_all : (flat : Flat) (n : ℕ) (o : Option Socket) → Keeps flat (close flat n o)
close_keeps_all flat n None = λ _. itself flat
close_keeps_all flat n (Some s) = close_keeps flat n s s.owner.state

drop_keeps_all : (flat : Flat) (o : Option Socket) → Keeps flat (drop flat o)
drop_keeps_all flat None = λ _. itself flat
drop_keeps_all flat (Some s) = done flat (removed flat s replies.Ok) refl

at_keeps_all : (flat : Flat) (n moment : ℕ) → Keeps flat (at flat n moment)
at_keeps_all flat n moment =
    cond_both (nat_lt moment (moment_of flat.header n flat.sections)) (unchanged flat replies.Einval)
    (unchanged (record flat { sections = with_moment flat.header n moment flat.sections }) replies.Ok) (Keeps flat)
    (λ _ _. itself flat) (λ _ _. record { sockets = refl; groups = refl })

pub refusal_keeps : RefusalKeeps
unfolding step
refusal_keeps flat n (commands.Socket label options) h = absurd (both_ways false refl h)
refusal_keeps flat n (commands.Bind label end) h = bind_keeps_all flat n (open_socket flat n label) end h
refusal_keeps flat n (commands.Listen label) h = listen_keeps_all flat n (open_socket flat n label) h
refusal_keeps flat n (commands.Connect label from to) h = connect_keeps_all flat n (open_socket flat n label) from to h
refusal_keeps flat n (commands.Accept listener label from end) h =
    accept_keeps flat (with_new_label flat n label) (next_name n flat.sections) (open_socket flat n listener) from end (record { sockets = refl; groups = refl }) h
refusal_keeps flat n (commands.Syn listener label from end) h =
    syn_keeps flat (with_new_label flat n label) (next_name n flat.sections) (open_socket flat n listener) from end (record { sockets = refl; groups = refl }) h
refusal_keeps flat n (commands.Ack request label) h =
    ack_keeps flat (with_new_label flat n label) n (next_name n flat.sections) (open_socket flat n request) (record { sockets = refl; groups = refl }) h
refusal_keeps flat n (commands.Close label) h = close_keeps_all flat n (open_socket flat n label) h
refusal_keeps flat n (commands.Drop label) h = drop_keeps_all flat (open_socket flat n label) h
refusal_keeps flat n (commands.At moment) h = at_keeps_all flat n moment h
refusal_keeps flat n commands.Reap h = absurd (both_ways false refl h)
refusal_keeps flat n (commands.Look query) h = itself flat
refusal_keeps flat n (commands.Packets count) h = itself flat
refusal_keeps flat n commands.Dump h = itself flat
