-- No command uses more slots than there are.
use Rattle.std.proofs.Common.{◌≡◌, ℕ, ◌+◌, ◌≤◌, ◌==◌, nat_lt, Bool, true, false, not, cond, if◌then◌else◌, List, [], ◌∷◌, ◌++◌, filter, Option, Some, None, arith, refl, sym, ap, ◌∙◌}
use Rattle.std.proofs.lemmas.Bool.{both_ways, cond_both, ltb-true, eqb-true}
use Rattle.list_words.specs.Lists.{Each, Pairs}
use Rattle.list_words.proofs.PairsLemmas.{pairs_filter}
use Rattle.sock_card.specs.declared.owner.State.{State}
use Rattle.sock_card.specs.declared.owner.State.TheVariants as states
use Rattle.flat_list.specs.declared.header.First.TheVariants as firsts
use Rattle.flat_list.specs.declared.socket.Socket.{Socket}
use Rattle.flat_list.specs.declared.command.End.{End}
use Rattle.flat_list.specs.declared.command.Command.TheVariants as commands
use Rattle.flat_list.specs.declared.command.Reply.{Reply}
use Rattle.flat_list.specs.declared.command.Reply.TheVariants as replies
use Rattle.flat_list.specs.declared.owned.Options.{Options}
use Rattle.flat_list.specs.Connect.{connected_socket, end_of, replacing, is_taken_in, connect, connect_as, connect_from, connect_found, connect_search, connect_socket, connected_by_search, suits_connect, child_of, accept, accept_as, request_of, syn, heir_of, without_request, hand_over, ack_by, ack_socket, ack}
use Rattle.flat_list.specs.Flat.{Flat}
use Rattle.flat_list.specs.Groups.{Group}
use Rattle.flat_list.specs.Outcome.{Outcome, unchanged, changed, added, removed, with_new_label, open_socket, has_slot, no_slot, draw, Found, search_port}
use Rattle.flat_list.specs.Owned.{source_of, is_no_end, is_no_accept, is_no_ack}
use Rattle.flat_list.specs.Sections.{next_name, moment_of, with_moment}
use Rattle.flat_list.specs.Sockets.{is_hashed, slots_used, has_name, put, replaced, waits_at, is_refused, is_expired, has_twin, open_in}
use Rattle.flat_list.specs.Sound.{NamesDiffer, FitsSlots, StaysWithinSlots}
use Rattle.flat_list.specs.Step.{step, socket, new_socket, at_end, at_port, at_address, bind, bind_any, bind_given, bind_found, bind_search, bind_socket, search_bind, listening, listen, listens_in, listen_as, groups_with, listen_bound, listen_found, listen_socket, waiting, close, close_socket, drop, at, reap}
use Rattle.flat_list.proofs.Counted.{count_cons, count_push}
use Rattle.flat_list.proofs.Searches.{draw_sockets, draw_header}

hashed : Socket → Bool
hashed s = is_hashed s.owner.state

weight : Bool → ℕ
weight b = cond {A = ℕ} b 1 0

used_cons : (x : Socket) (xs : List Socket) → slots_used (x ∷ xs) ≡ weight (hashed x) + slots_used xs
unfolding weight hashed
used_cons x xs = count_cons (λ s. is_hashed s.owner.state) x xs

weight_most : (b : Bool) → weight b ≤ 1
unfolding weight
weight_most true = omega arith
weight_most false = omega arith

-- sockets that go
fewer_if : (b : Bool) (x : Socket) (xs ys : List Socket) → slots_used ys ≤ slots_used xs → slots_used (cond b (x ∷ ys) ys) ≤ weight (hashed x) + slots_used xs
fewer_if true x xs ys h = let u = used_cons x ys in omega (arith, u, h)
fewer_if false x xs ys h = omega (arith, h)

fewer : (keep : Socket → Bool) (xs : List Socket) → slots_used (filter keep xs) ≤ slots_used xs
fewer keep [] = omega arith
fewer keep (x ∷ xs) =
    let rest = fewer keep xs in
    let here = fewer_if (keep x) x xs (filter keep xs) rest in
    let u = used_cons x xs in
    omega (arith, here, u)

-- a socket in the place of the one of its name: where it takes no slot
weightless : (new x : Socket) (b : Bool) → hashed new ≡ false → weight (hashed (cond b new x)) ≤ weight (hashed x)
unfolding weight
weightless new x true e = rw e (omega arith)
weightless new x false e = omega arith

put_quiet : (new : Socket) (xs : List Socket) → hashed new ≡ false → slots_used (put new xs) ≤ slots_used xs
put_quiet new [] e = omega arith
put_quiet new (x ∷ xs) e =
    let rest = put_quiet new xs e in
    let here = weightless new x (has_name new.owner.name x) e in
    let before = used_cons x xs in
    let after = used_cons (replaced new x) (put new xs) in
    omega (arith, rest, here, before, after)

-- where no other has its name
not_named : (new x : Socket) (b : Bool) → has_name new.owner.name x ≡ b → NamesDiffer new x → cond b new x ≡ x
not_named new x true e differ = absurd (differ (sym (eqb-true x.owner.name new.owner.name e)))
not_named new x false e differ = refl

put_absent : (new : Socket) (xs : List Socket) → Each (NamesDiffer new) xs → slots_used (put new xs) ≡ slots_used xs
put_absent new [] h = refl
put_absent new (x ∷ xs) h =
    let rest = put_absent new xs h.1 in
    let before = used_cons x xs in
    let after = used_cons (replaced new x) (put new xs) in
    let here : weight (hashed (replaced new x)) ≡ weight (hashed x) = ap (λ s. weight (hashed s)) (not_named new x (has_name new.owner.name x) refl h.0) in
    omega (arith, rest, before, after, here)

named_apart : (new x : Socket) (xs : List Socket) → x.owner.name ≡ new.owner.name → Each (NamesDiffer x) xs → Each (NamesDiffer new) xs
named_apart new x [] e h = tt
named_apart new x (y ∷ ys) e h = ((λ f. h.0 (e ∙ f)), named_apart new x ys e h.1)

put_if : (new x : Socket) (xs : List Socket) (b : Bool) → has_name new.owner.name x ≡ b → Each (NamesDiffer x) xs → slots_used (put new xs) ≤ slots_used xs + 1 → weight (hashed (cond b new x)) + slots_used (put new xs) ≤ weight (hashed x) + slots_used xs + 1
put_if new x xs true e apart rest =
    let same = put_absent new xs (named_apart new x xs (eqb-true x.owner.name new.owner.name e) apart) in
    let most = weight_most (hashed new) in
    omega (arith, same, most)
put_if new x xs false e apart rest = omega (arith, rest)

one_more : (new : Socket) (xs : List Socket) → Pairs NamesDiffer xs → slots_used (put new xs) ≤ slots_used xs + 1
one_more new [] h = omega arith
one_more new (x ∷ xs) h =
    let here = put_if new x xs (has_name new.owner.name x) refl h.0 (one_more new xs h.1) in
    let before = used_cons x xs in
    let after = used_cons (replaced new x) (put new xs) in
    omega (arith, here, before, after)

-- a list with names of their own, and slots for all that take one
record Fitting (flat : Flat) : Type 0 where
  names : Pairs NamesDiffer flat.sockets
  fits : FitsSlots flat

drawn : (flat : Flat) (n : ℕ) → Fitting flat → Fitting (draw flat n flat.header.offset).flat
drawn flat n is = record {
  names = rw (draw_sockets flat n flat.header.offset) is.names;
  fits = rw (draw_sockets flat n flat.header.offset, draw_header flat n flat.header.offset) is.fits;
}

not_full : (b : Bool) → not b ≡ false → b ≡ true
not_full true h = refl
not_full false h = absurd (both_ways true h refl)

abbrev Fits : Outcome → Type 0
Fits o = FitsSlots o.flat

-- there is a slot, and one socket more takes one, once others are gone or not
put_fits : (flat : Flat) (keep : Socket → Bool) (new : Socket) → Fitting flat → has_slot flat ≡ true → slots_used (put new (filter keep flat.sockets)) ≤ flat.header.shape.slots
put_fits flat keep new is room =
    let free = ltb-true (slots_used flat.sockets) flat.header.shape.slots room in
    let less = fewer keep flat.sockets in
    let more = one_more new (filter keep flat.sockets) (pairs_filter NamesDiffer keep flat.sockets is.names) in
    omega (arith, free, less, more)

put_one_fits : (flat : Flat) (new : Socket) → Fitting flat → has_slot flat ≡ true → slots_used (put new flat.sockets) ≤ flat.header.shape.slots
put_one_fits flat new is room =
    let free = ltb-true (slots_used flat.sockets) flat.header.shape.slots room in
    let more = one_more new flat.sockets is.names in
    omega (arith, free, more)

listen_as_fits : (flat : Flat) (s : Socket) (o : Option (List Group)) → Fitting flat → Fits (listen_as flat s o)
listen_as_fits flat s None is = is.fits
listen_as_fits flat s (Some groups) is =
    cond_both (not (has_slot flat)) (no_slot flat) (listens_in flat s groups) Fits (λ _. is.fits) (λ room. put_one_fits flat (listening s) is (not_full (has_slot flat) room))

listen_bound_fits : (flat : Flat) (s : Socket) → Fitting flat → Fits (listen_bound flat s)
listen_bound_fits flat s is =
    cond_both (is_refused s.owner flat.sockets) (unchanged flat replies.Eaddrinuse) (listen_as flat s (groups_with flat s)) Fits (λ _. is.fits) (λ _. listen_as_fits flat s (groups_with flat s) is)

listen_found_fits : (found : Found) (s : Socket) (o : Option ℕ) → Fitting found.flat → Fits (listen_found found s o)
listen_found_fits found s None is = is.fits
listen_found_fits found s (Some port) is = listen_bound_fits found.flat (at_port s s.owner.addr port) is

listen_fits : (flat : Flat) (n : ℕ) (s : Socket) (t : State) → Fitting flat → Fits (listen_socket flat n s t)
listen_fits flat n s states.Unbound is =
    let found : Found = search_bind flat n s s.owner.addr in listen_found_fits found s found.port (drawn flat n is)
listen_fits flat n s states.Bound is = listen_bound_fits flat s is
listen_fits flat n s _ is = is.fits

listen_fits_all : (flat : Flat) (n : ℕ) (o : Option Socket) → Fitting flat → Fits (listen flat n o)
listen_fits_all flat n None is = is.fits
listen_fits_all flat n (Some s) is = listen_fits flat n s s.owner.state is

-- a socket that is bound to an end or to an address takes no slot
bound_fits : (flat : Flat) (s : Socket) (end : End) (reply : Reply) → Fitting flat → Fits (changed flat (at_end s end) reply)
unfolding hashed
bound_fits flat s end reply is =
    let less = put_quiet (at_end s end) flat.sockets refl in let fits = is.fits in omega (arith, less, fits)

addressed_fits : (flat : Flat) (s : Socket) (addr : ℕ) (reply : Reply) → Fitting flat → Fits (changed flat (at_address s addr) reply)
unfolding hashed
addressed_fits flat s addr reply is =
    let less = put_quiet (at_address s addr) flat.sockets refl in let fits = is.fits in omega (arith, less, fits)

bind_found_fits : (found : Found) (s : Socket) (addr : ℕ) (o : Option ℕ) → Fitting found.flat → Fits (bind_found found s addr o)
bind_found_fits found s addr None is = is.fits
bind_found_fits found s addr (Some port) is = bound_fits found.flat s (record { addr = addr; port = port }) (replies.Port port) is

bind_fits : (flat : Flat) (n : ℕ) (s : Socket) (t : State) (end : End) → Fitting flat → Fits (bind_socket flat n s t end)
bind_fits flat n s states.Unbound end is =
    let found : Found = search_bind flat n s end.addr in
    cond_both (end.port == 0) (bind_any flat n s end.addr) (bind_given flat s end) Fits
    (λ _. cond_both s.owner.noport (changed flat (at_address s end.addr) (replies.Port 0)) (bind_search flat n s end.addr) Fits
    (λ _. addressed_fits flat s end.addr (replies.Port 0) is) (λ _. bind_found_fits found s end.addr found.port (drawn flat n is)))
    (λ _. cond_both (is_refused (at_end s end).owner flat.sockets) (unchanged flat replies.Eaddrinuse) (changed flat (at_end s end) (replies.Port end.port)) Fits (λ _. is.fits) (λ _. bound_fits flat s end (replies.Port end.port) is))
bind_fits flat n s _ end is = is.fits

bind_fits_all : (flat : Flat) (n : ℕ) (o : Option Socket) (end : End) → Fitting flat → Fits (bind flat n o end)
bind_fits_all flat n None end is = is.fits
bind_fits_all flat n (Some s) end is = bind_fits flat n s s.owner.state end is

connect_as_fits : (flat : Flat) (new : Socket) → Fitting flat → Fits (connect_as flat new)
connect_as_fits flat new is =
    cond_both (not (has_slot flat)) (no_slot flat) (changed (replacing flat new.owner) new (replies.End (end_of new))) Fits (λ _. is.fits)
    (λ room. put_fits flat (λ s. not (waits_at new.owner s)) new is (not_full (has_slot flat) room))

connect_from_fits : (flat : Flat) (n : ℕ) (s : Socket) (to : End) (source : Option ℕ) → Fitting flat → Fits (connect_from flat n s to source)
connect_from_fits flat n s to None is = is.fits
connect_from_fits flat n s to (Some source) is =
    let new : Socket = connected_socket s source to in
    cond_both (is_taken_in flat n new) (unchanged flat replies.Eaddrnotavail) (connect_as flat new) Fits (λ _. is.fits) (λ _. connect_as_fits flat new is)

connect_found_fits : (found : Found) (s : Socket) (source : ℕ) (to : End) (o : Option ℕ) → Fitting found.flat → Fits (connect_found found s source to o)
connect_found_fits found s source to None is = is.fits
connect_found_fits found s source to (Some port) is = connect_as_fits found.flat (connected_by_search s source to port) is

connect_search_fits : (flat : Flat) (n : ℕ) (s : Socket) (to : End) (source : Option ℕ) → Fitting flat → Fits (connect_search flat n s to source)
connect_search_fits flat n s to None is = is.fits
connect_search_fits flat n s to (Some source) is =
    let found : Found = search_port flat n firsts.Even (suits_connect flat n s source to) in
    connect_found_fits found s source to found.port (drawn flat n is)

connect_fits : (flat : Flat) (n : ℕ) (s : Socket) (t : State) (from : Option ℕ) (to : End) → Fitting flat → Fits (connect_socket flat n s t from to)
connect_fits flat n s states.Bound from to is =
    cond_both (is_no_end to) (unchanged flat replies.Einval) (connect_from flat n s to (source_of s.owner.addr from)) Fits (λ _. is.fits)
    (λ _. connect_from_fits flat n s to (source_of s.owner.addr from) is)
connect_fits flat n s states.Unbound from to is =
    cond_both (is_no_end to) (unchanged flat replies.Einval) (connect_search flat n s to (source_of s.owner.addr from)) Fits (λ _. is.fits)
    (λ _. connect_search_fits flat n s to (source_of s.owner.addr from) is)
connect_fits flat n s _ from to is = is.fits

connect_fits_all : (flat : Flat) (n : ℕ) (o : Option Socket) (from : Option ℕ) (to : End) → Fitting flat → Fits (connect flat n o from to)
connect_fits_all flat n None from to is = is.fits
connect_fits_all flat n (Some s) from to is = connect_fits flat n s s.owner.state from to is

-- one socket more, at the end
push_by : (b : Bool) (after before : ℕ) → after ≡ before + cond {A = ℕ} b 1 0 → after ≤ before + 1
push_by true after before h = omega (arith, h)
push_by false after before h = omega (arith, h)

push_most : (xs : List Socket) (s : Socket) → slots_used (xs ++ s ∷ []) ≤ slots_used xs + 1
push_most xs s =
    let n = count_push (λ x. is_hashed x.owner.state) xs s in
    push_by (is_hashed s.owner.state) (slots_used (xs ++ s ∷ [])) (slots_used xs) n

child_fits : (flat : Flat) (child : Socket) → Fitting flat → has_slot flat ≡ true → Fits (added (replacing flat child.owner) child replies.Ok)
child_fits flat child is room =
    let free = ltb-true (slots_used flat.sockets) flat.header.shape.slots room in
    let keep : Socket → Bool = λ s. not (waits_at child.owner s) in
    let less = fewer keep flat.sockets in
    let more = push_most (filter keep flat.sockets) child in
    omega (arith, free, less, more)

accept_as_fits : (flat : Flat) (child : Socket) → Fitting flat → Fits (accept_as flat child)
accept_as_fits flat child is =
    let made : Outcome = added (replacing flat child.owner) child replies.Ok in
    cond_both (has_twin child.owner flat.sockets) (unchanged flat replies.Eaddrnotavail) (if not (has_slot flat) then no_slot flat else made) Fits (λ _. is.fits)
    (λ _. cond_both (not (has_slot flat)) (no_slot flat) made Fits (λ _. is.fits) (λ room. child_fits flat child is (not_full (has_slot flat) room)))

accept_fits : (flat : Flat) (name : ℕ) (o : Option Socket) (from end : End) → Fitting flat → Fits (accept flat name o from end)
accept_fits flat name None from end is = is.fits
accept_fits flat name (Some l) from end is =
    cond_both (is_no_accept l.owner from end) (unchanged flat replies.Einval) (accept_as flat (child_of l name from end)) Fits (λ _. is.fits)
    (λ _. accept_as_fits flat (child_of l name from end) is)

syn_fits : (flat : Flat) (name : ℕ) (o : Option Socket) (from end : End) → Fitting flat → Fits (syn flat name o from end)
syn_fits flat name None from end is = is.fits
syn_fits flat name (Some l) from end is =
    cond_both (is_no_accept l.owner from end) (unchanged flat replies.Einval) (accept_as flat (request_of l name from end)) Fits (λ _. is.fits)
    (λ _. accept_as_fits flat (request_of l name from end) is)

-- a child needs a slot beside its request's
heir_fits : (flat : Flat) (r child : Socket) → has_slot flat ≡ true → Fits (added (without_request flat r) child replies.Ok)
heir_fits flat r child room =
    let free = ltb-true (slots_used flat.sockets) flat.header.shape.slots room in
    let keep : Socket → Bool = λ s. not (has_name r.owner.name s) in
    let less = fewer keep flat.sockets in
    let more = push_most (filter keep flat.sockets) child in
    omega (arith, free, less, more)

hand_over_fits : (flat : Flat) (r child : Socket) → Fitting flat → Fits (hand_over flat r child)
hand_over_fits flat r child is =
    cond_both (not (has_slot flat)) (no_slot flat) (added (without_request flat r) child replies.Ok) Fits (λ _. is.fits) (λ room. heir_fits flat r child (not_full (has_slot flat) room))

ack_by_fits : (flat : Flat) (name : ℕ) (r : Socket) (o : Option Socket) → Fitting flat → Fits (ack_by flat name r o)
ack_by_fits flat name r None is = is.fits
ack_by_fits flat name r (Some l) is =
    cond_both (is_no_ack l.owner r.owner) (unchanged flat replies.Einval) (hand_over flat r (heir_of l name r)) Fits (λ _. is.fits) (λ _. hand_over_fits flat r (heir_of l name r) is)

ack_socket_fits : (flat : Flat) (n name : ℕ) (r : Socket) (t : State) → Fitting flat → Fits (ack_socket flat n name r t)
ack_socket_fits flat n name r states.Request is = ack_by_fits flat name r (open_in n r.owner.origin flat.sockets) is
ack_socket_fits flat n name r _ is = is.fits

ack_fits : (flat : Flat) (n name : ℕ) (o : Option Socket) → Fitting flat → Fits (ack flat n name o)
ack_fits flat n name None is = is.fits
ack_fits flat n name (Some r) is = ack_socket_fits flat n name r r.owner.state is

gone_fits : (flat : Flat) (s : Socket) (reply : Reply) → Fitting flat → Fits (removed flat s reply)
gone_fits flat s reply is =
    let less = fewer (λ x. not (has_name s.owner.name x)) flat.sockets in let fits = is.fits in omega (arith, less, fits)

close_fits : (flat : Flat) (n : ℕ) (s : Socket) (t : State) → Fitting flat → Fits (close_socket flat n s t)
close_fits flat n s states.Full is =
    let left : Socket = waiting s (moment_of flat.header n flat.sections) in
    let no_slots : Reply = replies.NoSlot flat.header.shape.slots 0 in
    cond_both (has_slot flat) (changed flat left replies.TimeWait) (removed flat s no_slots) Fits (λ room. put_one_fits flat left is room) (λ _. gone_fits flat s no_slots is)
close_fits flat n s _ is = gone_fits flat s replies.Ok is

close_fits_all : (flat : Flat) (n : ℕ) (o : Option Socket) → Fitting flat → Fits (close flat n o)
close_fits_all flat n None is = is.fits
close_fits_all flat n (Some s) is = close_fits flat n s s.owner.state is

drop_fits_all : (flat : Flat) (o : Option Socket) → Fitting flat → Fits (drop flat o)
drop_fits_all flat None is = is.fits
drop_fits_all flat (Some s) is = gone_fits flat s replies.Ok is

at_fits : (flat : Flat) (n moment : ℕ) → Fitting flat → Fits (at flat n moment)
at_fits flat n moment is =
    cond_both (nat_lt moment (moment_of flat.header n flat.sections)) (unchanged flat replies.Einval)
    (unchanged (record flat { sections = with_moment flat.header n moment flat.sections }) replies.Ok) Fits (λ _. is.fits) (λ _. is.fits)

reap_fits : (flat : Flat) (n : ℕ) → Fitting flat → Fits (reap flat n)
reap_fits flat n is =
    let over : Socket → Bool = is_expired n (moment_of flat.header n flat.sections) in
    let less = fewer (λ s. not (over s)) flat.sockets in let fits = is.fits in omega (arith, less, fits)

socket_fits : (flat : Flat) (n : ℕ) (label : List ℕ) (options : Options) → Fitting flat → Fits (socket flat n label options)
socket_fits flat n label options is =
    let same : slots_used (flat.sockets ++ new_socket (next_name n flat.sections) options ∷ []) ≡ slots_used flat.sockets + 0 = count_push (λ s. is_hashed s.owner.state) flat.sockets (new_socket (next_name n flat.sections) options) in
    let fits = is.fits in
    omega (arith, same, fits)

pub slots_stay : StaysWithinSlots
unfolding step
slots_stay flat n (commands.Socket label options) sound fits =
    socket_fits flat n label options (record { names = sound.names; fits = fits })
slots_stay flat n (commands.Bind label end) sound fits = bind_fits_all flat n (open_socket flat n label) end (record { names = sound.names; fits = fits })
slots_stay flat n (commands.Listen label) sound fits = listen_fits_all flat n (open_socket flat n label) (record { names = sound.names; fits = fits })
slots_stay flat n (commands.Connect label from to) sound fits = connect_fits_all flat n (open_socket flat n label) from to (record { names = sound.names; fits = fits })
slots_stay flat n (commands.Accept listener label from end) sound fits =
    accept_fits (with_new_label flat n label) (next_name n flat.sections) (open_socket flat n listener) from end (record { names = sound.names; fits = fits })
slots_stay flat n (commands.Syn listener label from end) sound fits =
    syn_fits (with_new_label flat n label) (next_name n flat.sections) (open_socket flat n listener) from end (record { names = sound.names; fits = fits })
slots_stay flat n (commands.Ack request label) sound fits =
    ack_fits (with_new_label flat n label) n (next_name n flat.sections) (open_socket flat n request) (record { names = sound.names; fits = fits })
slots_stay flat n (commands.Close label) sound fits = close_fits_all flat n (open_socket flat n label) (record { names = sound.names; fits = fits })
slots_stay flat n (commands.Drop label) sound fits = drop_fits_all flat (open_socket flat n label) (record { names = sound.names; fits = fits })
slots_stay flat n (commands.At moment) sound fits = at_fits flat n moment (record { names = sound.names; fits = fits })
slots_stay flat n commands.Reap sound fits = reap_fits flat n (record { names = sound.names; fits = fits })
slots_stay flat n (commands.Look query) sound fits = fits
slots_stay flat n (commands.Packets count) sound fits = fits
slots_stay flat n commands.Dump sound fits = fits
