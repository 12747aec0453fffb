-- A command gives one label at most, in its own section.
use Rattle.std.proofs.Common.{◌≡◌, ◌≢◌, ℕ, ◌+◌, ◌≤◌, ◌==◌, ◌∙◌, List, [], ◌∷◌, ◌++◌, length, Bool, true, false, not, nat_lt, cond, if◌then◌else◌, Some, None, Option, find, unwrap_or, arith, refl, sym, ap, subst, ◌⊎◌, inl, inr, length-append, Result, Ok, Err, IfOk, OnErr}
use Rattle.std.specs.Option.{option_map}
use Rattle.std.proofs.lemmas.Bool.{cases_Bool, eqb-true, eq-eqb, eqb-false, ne_eqb, cond_both}
use Rattle.sock_card.specs.declared.owner.State.{State}
use Rattle.sock_card.specs.declared.owner.State.TheVariants as states
use Rattle.flat_list.specs.declared.header.First.{First}
use Rattle.flat_list.specs.declared.header.First.TheVariants as firsts
use Rattle.flat_list.specs.declared.header.Header.{Header}
use Rattle.flat_list.specs.declared.socket.Socket.{Socket}
use Rattle.flat_list.specs.declared.command.End.{End}
use Rattle.flat_list.specs.declared.command.Command.{Command}
use Rattle.flat_list.specs.declared.command.Command.TheVariants as commands
use Rattle.flat_list.specs.declared.command.Reply.{Reply}
use Rattle.flat_list.specs.declared.command.Reply.TheVariants as replies
use Rattle.flat_list.specs.Flat.{Flat}
use Rattle.flat_list.specs.Outcome.{added, removed, with_new_label, Outcome, unchanged, changed, open_socket, has_slot, no_slot, draw, Found, search_port}
use Rattle.flat_list.specs.Sections.{moment_of, at_moment, with_moment, with_given, with_drawn, past_word, next_name, GivesOneAtMost, KeepsOthers, Section, section_of, labels_of, new_section, put_section, has_number, with_label}
use Rattle.flat_list.specs.Sockets.{is_refused, has_twin, open_in}
use Rattle.flat_list.specs.Groups.{Group}
use Rattle.flat_list.specs.Connect.{connected_socket, end_of, replacing, is_taken_in, connect, connect_as, connect_from, connect_found, connect_search, connect_socket, connected_by_search, suits_connect, child_of, accept, accept_as, request_of, syn, heir_of, without_request, hand_over, ack_by, ack_socket, ack}
use Rattle.flat_list.specs.Owned.{source_of, is_no_end, is_no_accept, is_no_ack}
use Rattle.flat_list.specs.Step.{drop, step, at_end, at_port, at_address, bind, bind_any, bind_given, bind_found, bind_search, bind_socket, search_bind, listen, listens_in, listen_as, groups_with, listen_bound, listen_found, listen_socket, waiting, close, close_full, close_socket, at, reap}

-- what is found among sections in which one was put
pub find_put : (m : ℕ) (s : Section) (xs : List Section) → find (has_number m) (put_section s xs) ≡ (if has_number m s then Some s else find (has_number m) xs)
find_put m s [] = refl
find_put m s (x ∷ xs) = grind (arith, find_put m s xs)

-- the section of a number has that number
numbered_if : (header : Header) (n : ℕ) (x : Section) (xs : List Section) → (has_number n x ≡ true) ⊎ (has_number n x ≡ false) → (section_of header n xs).number ≡ n → (section_of header n (x ∷ xs)).number ≡ n
numbered_if header n x xs (inl e) h = rw e (eqb-true x.number n e)
numbered_if header n x xs (inr e) h = rw e h

pub numbered : (header : Header) (n : ℕ) (xs : List Section) → (section_of header n xs).number ≡ n
numbered header n [] = refl
numbered header n (x ∷ xs) = numbered_if header n x xs (cases_Bool (has_number n x)) (numbered header n xs)

-- its labels are those that it has given
kept_labels : (header : Header) (n : ℕ) (o : Option Section) → (unwrap_or o (new_section header n)).labels ≡ unwrap_or (option_map (λ s. s.labels) o) []
kept_labels header n None = refl
kept_labels header n (Some s) = refl

pub labels_are : (header : Header) (n : ℕ) (xs : List Section) → (section_of header n xs).labels ≡ labels_of n xs
labels_are header n xs = kept_labels header n (find (has_number n) xs)

-- the labels of the section that was put, and of the others
labels_put : (m : ℕ) (s : Section) (xs : List Section) (same : Bool) → has_number m s ≡ same → labels_of m (put_section s xs) ≡ (if same then s.labels else labels_of m xs)
labels_put m s xs true e = ap (λ o. unwrap_or (option_map (λ s. s.labels) o) []) (rw e at (find_put m s xs))
labels_put m s xs false e = ap (λ o. unwrap_or (option_map (λ s. s.labels) o) []) (rw e at (find_put m s xs))

labels_put_own : (m : ℕ) (s : Section) (xs : List Section) → s.number ≡ m → labels_of m (put_section s xs) ≡ s.labels
labels_put_own m s xs e = labels_put m s xs true (eq-eqb s.number m e)

labels_put_other : (m : ℕ) (s : Section) (xs : List Section) → m ≢ s.number → labels_of m (put_section s xs) ≡ labels_of m xs
labels_put_other m s xs e = labels_put m s xs false (ne_eqb s.number m (λ h. e (sym h)))

-- the labels after a section has given one more
pub given_at : (header : Header) (n : ℕ) (label : List ℕ) (xs : List Section) → labels_of n (with_given header n label xs) ≡ labels_of n xs ++ label ∷ []
given_at header n label xs =
    labels_put_own n (with_label label (section_of header n xs)) xs (numbered header n xs) ∙ ap (λ labels. labels ++ label ∷ []) (labels_are header n xs)

given_elsewhere : (header : Header) (n : ℕ) (label : List ℕ) (xs : List Section) → KeepsOthers n xs (with_given header n label xs)
given_elsewhere header n label xs m apart =
    labels_put_other m (with_label label (section_of header n xs)) xs (λ e. apart (e ∙ numbered header n xs))

-- a word that is drawn changes no labels
drawn_if : (header : Header) (n m : ℕ) (xs : List Section) → (has_number m (section_of header n xs) ≡ true) ⊎ (has_number m (section_of header n xs) ≡ false) → labels_of m (with_drawn header n xs) ≡ labels_of m xs
drawn_if header n m xs (inl e) =
    let same : n ≡ m = sym (numbered header n xs) ∙ eqb-true (section_of header n xs).number m e in
    labels_put m (past_word (section_of header n xs)) xs true e ∙ labels_are header n xs ∙ ap (λ k. labels_of k xs) same
drawn_if header n m xs (inr e) = labels_put m (past_word (section_of header n xs)) xs false e

-- the moment of a section stays as it draws a word
moment_put : (header : Header) (n : ℕ) (s : Section) (xs : List Section) → s.number ≡ n → moment_of header n (put_section s xs) ≡ s.moment
moment_put header n s xs e = ap (λ o. (unwrap_or o (new_section header n)).moment) (rw (eq-eqb s.number n e) at (find_put n s xs))

pub drawn_moment : (header : Header) (n : ℕ) (xs : List Section) → moment_of header n (with_drawn header n xs) ≡ moment_of header n xs
drawn_moment header n xs = moment_put header n (past_word (section_of header n xs)) xs (numbered header n xs)

-- a moment that is set changes no labels
moment_if : (header : Header) (n m moment : ℕ) (xs : List Section) → (has_number m (section_of header n xs) ≡ true) ⊎ (has_number m (section_of header n xs) ≡ false) → labels_of m (with_moment header n moment xs) ≡ labels_of m xs
moment_if header n m moment xs (inl e) =
    let same : n ≡ m = sym (numbered header n xs) ∙ eqb-true (section_of header n xs).number m e in
    labels_put m (at_moment moment (section_of header n xs)) xs true e ∙ labels_are header n xs ∙ ap (λ k. labels_of k xs) same
moment_if header n m moment xs (inr e) = labels_put m (at_moment moment (section_of header n xs)) xs false e

pub moment_keeps : (header : Header) (n moment : ℕ) (xs : List Section) (m : ℕ) → labels_of m (with_moment header n moment xs) ≡ labels_of m xs
moment_keeps header n moment xs m =
    moment_if header n m moment xs (cases_Bool (has_number m (section_of header n xs)))

-- all sections have the labels that they had
abbrev pub KeepsLabels : Flat → Flat → Type 0
KeepsLabels old new = (m : ℕ) → labels_of m new.sections ≡ labels_of m old.sections

draw_keeps : (flat : Flat) (n : ℕ) (offset : Option ℕ) → KeepsLabels flat (draw flat n offset).flat
draw_keeps flat n (Some offset) m = refl
draw_keeps flat n None m = drawn_if flat.header n m flat.sections (cases_Bool (has_number m (section_of flat.header n flat.sections)))

pub search_keeps : (flat : Flat) (n : ℕ) (first : First) (suits : ℕ → Bool) → KeepsLabels flat (search_port flat n first suits).flat
search_keeps flat n first suits = draw_keeps flat n flat.header.offset

-- of the sections, that of number n alone may have given a label more
pub record GivesAt (n : ℕ) (old new : List Section) : Type 0 where
  pub others : KeepsOthers n old new
  pub own : (labels_of n new ≡ labels_of n old) ⊎ ((label : List ℕ) × (labels_of n new ≡ labels_of n old ++ label ∷ []))

pub keeps_at : (n : ℕ) (old new : Flat) → KeepsLabels old new → GivesAt n old.sections new.sections
keeps_at n old new keeps = record { others = λ m apart. keeps m; own = inl (keeps n) }

pub given_gives : (header : Header) (n : ℕ) (label : List ℕ) (xs : List Section) → GivesAt n xs (with_given header n label xs)
given_gives header n label xs =
    record { others = given_elsewhere header n label xs; own = inr (label, given_at header n label xs) }

-- how many labels the section of number m has given, when that of number n may have given one more
pub record Grows (n m : ℕ) (old new : List Section) : Type 0 where
  pub least : length (labels_of m old) ≤ length (labels_of m new)
  pub most : length (labels_of m new) ≤ length (labels_of m old) + cond (n == m) 1 0

grows_own : (n : ℕ) (old new : List Section) → (labels_of n new ≡ labels_of n old) ⊎ ((label : List ℕ) × (labels_of n new ≡ labels_of n old ++ label ∷ [])) → Grows n n old new
grows_own n old new (inl e) = record { least = rw e (omega arith); most = rw e (omega arith) }
grows_own n old new (inr (label, e)) =
    let counted : cond {A = ℕ} (n == n) 1 0 ≡ 1 = rw (eq-eqb n n refl) refl in
    let more : length (labels_of n old ++ label ∷ []) ≡ length (labels_of n old) + 1 = length-append (labels_of n old) (label ∷ []) in
    record { least = rw e (omega (arith, more)); most = rw (e, counted) (omega (arith, more)) }

grows_if : (n m : ℕ) (old new : List Section) → GivesAt n old new → ((n == m) ≡ true) ⊎ ((n == m) ≡ false) → Grows n m old new
grows_if n m old new gives (inl e) = subst (λ k. Grows n k old new) (eqb-true n m e) (grows_own n old new gives.own)
grows_if n m old new gives (inr e) =
    let kept : labels_of m new ≡ labels_of m old = gives.others m (λ same. eqb-false n m e (sym same)) in
    record { least = rw kept (omega arith); most = rw kept (omega arith) }

pub grows : (n m : ℕ) (old new : List Section) → GivesAt n old new → Grows n m old new
grows n m old new gives = grows_if n m old new gives (cases_Bool (n == m))

pub one_at_most : (n : ℕ) (old new : List Section) → GivesAt n old new → GivesOneAtMost old new
one_at_most n old new h m = let grown = grows n m old new h in grind (arith, grown.most)

-- the labels after a command that gives none
abbrev Keeps : Flat → Outcome → Type 0
Keeps flat o = KeepsLabels flat o.flat

-- an outcome over a list with the same labels
listen_as_keeps : (first flat : Flat) (s : Socket) (groups : Option (List Group)) → KeepsLabels first flat → Keeps first (listen_as flat s groups)
listen_as_keeps first flat s None keeps = keeps
listen_as_keeps first flat s (Some groups) keeps =
    cond_both (not (has_slot flat)) (no_slot flat) (listens_in flat s groups) (Keeps first) (λ _. keeps) (λ _. keeps)

listen_bound_keeps : (first flat : Flat) (s : Socket) → KeepsLabels first flat → Keeps first (listen_bound flat s)
listen_bound_keeps first flat s keeps =
    cond_both (is_refused s.owner flat.sockets) (unchanged flat replies.Eaddrinuse) (listen_as flat s (groups_with flat s)) (Keeps first) (λ _. keeps)
    (λ _. listen_as_keeps first flat s (groups_with flat s) keeps)

connect_as_keeps : (first flat : Flat) (new : Socket) → KeepsLabels first flat → Keeps first (connect_as flat new)
connect_as_keeps first flat new keeps =
    cond_both (not (has_slot flat)) (no_slot flat) (changed (replacing flat new.owner) new (replies.End (end_of new))) (Keeps first) (λ _. keeps) (λ _. keeps)

bind_found_keeps : (first : Flat) (found : Found) (s : Socket) (addr : ℕ) (port : Option ℕ) → KeepsLabels first found.flat → Keeps first (bind_found found s addr port)
bind_found_keeps first found s addr None keeps = keeps
bind_found_keeps first found s addr (Some port) keeps = keeps

listen_found_keeps : (first : Flat) (found : Found) (s : Socket) (port : Option ℕ) → KeepsLabels first found.flat → Keeps first (listen_found found s port)
listen_found_keeps first found s None keeps = keeps
listen_found_keeps first found s (Some port) keeps = listen_bound_keeps first found.flat (at_port s s.owner.addr port) keeps

connect_found_keeps : (first : Flat) (found : Found) (s : Socket) (source : ℕ) (to : End) (port : Option ℕ) → KeepsLabels first found.flat → Keeps first (connect_found found s source to port)
connect_found_keeps first found s source to None keeps = keeps
connect_found_keeps first found s source to (Some port) keeps = connect_as_keeps first found.flat (connected_by_search s source to port) keeps

bind_keeps : (flat : Flat) (n : ℕ) (s : Socket) (t : State) (end : End) → Keeps flat (bind_socket flat n s t end)
bind_keeps flat n s states.Unbound end =
    let found : Found = search_bind flat n s end.addr in
    cond_both (end.port == 0) (bind_any flat n s end.addr) (bind_given flat s end) (Keeps flat)
    (λ _. cond_both s.owner.noport (changed flat (at_address s end.addr) (replies.Port 0)) (bind_search flat n s end.addr) (Keeps flat) (λ _ m. refl)
    (λ _. bind_found_keeps flat found s end.addr found.port (draw_keeps flat n flat.header.offset)))
    (λ _. cond_both (is_refused (at_end s end).owner flat.sockets) (unchanged flat replies.Eaddrinuse) (changed flat (at_end s end) (replies.Port end.port)) (Keeps flat) (λ _ m. refl) (λ _ m. refl))
bind_keeps flat n s _ end = λ m. refl

bind_keeps_all : (flat : Flat) (n : ℕ) (o : Option Socket) (end : End) → Keeps flat (bind flat n o end)
bind_keeps_all flat n None end = λ m. refl
bind_keeps_all flat n (Some s) end = bind_keeps flat n s s.owner.state end

listen_keeps : (flat : Flat) (n : ℕ) (s : Socket) (t : State) → Keeps flat (listen_socket flat n s t)
listen_keeps flat n s states.Unbound =
    let found : Found = search_bind flat n s s.owner.addr in listen_found_keeps flat found s found.port (draw_keeps flat n flat.header.offset)
listen_keeps flat n s states.Bound = listen_bound_keeps flat flat s (λ m. refl)
listen_keeps flat n s _ = λ m. refl

listen_keeps_all : (flat : Flat) (n : ℕ) (o : Option Socket) → Keeps flat (listen flat n o)
listen_keeps_all flat n None = λ m. refl
listen_keeps_all flat n (Some s) = listen_keeps flat n s s.owner.state

connect_from_keeps : (flat : Flat) (n : ℕ) (s : Socket) (to : End) (source : Option ℕ) → Keeps flat (connect_from flat n s to source)
connect_from_keeps flat n s to None = λ m. refl
connect_from_keeps flat n s to (Some source) =
    let new : Socket = connected_socket s source to in
    cond_both (is_taken_in flat n new) (unchanged flat replies.Eaddrnotavail) (connect_as flat new) (Keeps flat) (λ _ m. refl) (λ _. connect_as_keeps flat flat new (λ m. refl))

connect_search_keeps : (flat : Flat) (n : ℕ) (s : Socket) (to : End) (source : Option ℕ) → Keeps flat (connect_search flat n s to source)
connect_search_keeps flat n s to None = λ m. refl
connect_search_keeps flat n s to (Some source) =
    let found : Found = search_port flat n firsts.Even (suits_connect flat n s source to) in
    connect_found_keeps flat found s source to found.port (draw_keeps flat n flat.header.offset)

connect_keeps : (flat : Flat) (n : ℕ) (s : Socket) (t : State) (from : Option ℕ) (to : End) → Keeps flat (connect_socket flat n s t from to)
connect_keeps flat n s states.Bound from to =
    cond_both (is_no_end to) (unchanged flat replies.Einval) (connect_from flat n s to (source_of s.owner.addr from)) (Keeps flat) (λ _ m. refl)
    (λ _. connect_from_keeps flat n s to (source_of s.owner.addr from))
connect_keeps flat n s states.Unbound from to =
    cond_both (is_no_end to) (unchanged flat replies.Einval) (connect_search flat n s to (source_of s.owner.addr from)) (Keeps flat) (λ _ m. refl)
    (λ _. connect_search_keeps flat n s to (source_of s.owner.addr from))
connect_keeps flat n s _ from to = λ m. refl

connect_keeps_all : (flat : Flat) (n : ℕ) (o : Option Socket) (from : Option ℕ) (to : End) → Keeps flat (connect flat n o from to)
connect_keeps_all flat n None from to = λ m. refl
connect_keeps_all flat n (Some s) from to = connect_keeps flat n s s.owner.state from to

-- the sections that an outcome leaves
abbrev Has : List Section → Outcome → Type 0
Has sections o = o.flat.sections ≡ sections

accept_as_keeps : (flat : Flat) (child : Socket) → Has flat.sections (accept_as flat child)
accept_as_keeps flat child =
    let done : Outcome = added (replacing flat child.owner) child replies.Ok in
    cond_both (has_twin child.owner flat.sockets) (unchanged flat replies.Eaddrnotavail) (if not (has_slot flat) then no_slot flat else done) (Has flat.sections) (λ _. refl)
    (λ _. cond_both (not (has_slot flat)) (no_slot flat) done (Has flat.sections) (λ _. refl) (λ _. refl))

accept_keeps_all : (flat : Flat) (name : ℕ) (o : Option Socket) (from at : End) → Has flat.sections (accept flat name o from at)
accept_keeps_all flat name None from at = refl
accept_keeps_all flat name (Some l) from at =
    cond_both (is_no_accept l.owner from at) (unchanged flat replies.Einval) (accept_as flat (child_of l name from at)) (Has flat.sections) (λ _. refl)
    (λ _. accept_as_keeps flat (child_of l name from at))

syn_keeps_all : (flat : Flat) (name : ℕ) (o : Option Socket) (from at : End) → Has flat.sections (syn flat name o from at)
syn_keeps_all flat name None from at = refl
syn_keeps_all flat name (Some l) from at =
    cond_both (is_no_accept l.owner from at) (unchanged flat replies.Einval) (accept_as flat (request_of l name from at)) (Has flat.sections) (λ _. refl)
    (λ _. accept_as_keeps flat (request_of l name from at))

hand_over_keeps : (flat : Flat) (r child : Socket) → Has flat.sections (hand_over flat r child)
hand_over_keeps flat r child =
    cond_both (not (has_slot flat)) (no_slot flat) (added (without_request flat r) child replies.Ok) (Has flat.sections) (λ _. refl) (λ _. refl)

ack_by_keeps : (flat : Flat) (name : ℕ) (r : Socket) (o : Option Socket) → Has flat.sections (ack_by flat name r o)
ack_by_keeps flat name r None = refl
ack_by_keeps flat name r (Some l) =
    cond_both (is_no_ack l.owner r.owner) (unchanged flat replies.Einval) (hand_over flat r (heir_of l name r)) (Has flat.sections) (λ _. refl)
    (λ _. hand_over_keeps flat r (heir_of l name r))

ack_socket_keeps : (flat : Flat) (n name : ℕ) (r : Socket) (t : State) → Has flat.sections (ack_socket flat n name r t)
ack_socket_keeps flat n name r states.Request = ack_by_keeps flat name r (open_in n r.owner.origin flat.sockets)
ack_socket_keeps flat n name r _ = refl

ack_keeps_all : (flat : Flat) (n name : ℕ) (o : Option Socket) → Has flat.sections (ack flat n name o)
ack_keeps_all flat n name None = refl
ack_keeps_all flat n name (Some r) = ack_socket_keeps flat n name r r.owner.state

drop_keeps_all : (flat : Flat) (o : Option Socket) → Keeps flat (drop flat o)
drop_keeps_all flat None = λ m. refl
drop_keeps_all flat (Some s) = λ m. refl

close_full_keeps : (flat : Flat) (n : ℕ) (s : Socket) → Keeps flat (close_full flat n s)
close_full_keeps flat n s =
    cond_both (has_slot flat) (changed flat (waiting s (moment_of flat.header n flat.sections)) replies.TimeWait) (removed flat s (replies.NoSlot flat.header.shape.slots 0)) (Keeps flat)
    (λ _ m. refl) (λ _ m. refl)

close_keeps : (flat : Flat) (n : ℕ) (s : Socket) (t : State) → Keeps flat (close_socket flat n s t)
close_keeps flat n s states.Full = close_full_keeps flat n s
close_keeps flat n s _ = λ m. refl

close_keeps_all : (flat : Flat) (n : ℕ) (o : Option Socket) → Keeps flat (close flat n o)
close_keeps_all flat n None = λ m. refl
close_keeps_all flat n (Some s) = close_keeps flat n s s.owner.state

at_keeps_all : (flat : Flat) (n moment : ℕ) → Keeps flat (at flat n moment)
at_keeps_all flat n moment =
    cond_both (nat_lt moment (moment_of flat.header n flat.sections)) (unchanged flat replies.Einval)
    (unchanged (record flat { sections = with_moment flat.header n moment flat.sections }) replies.Ok) (Keeps flat)
    (λ _ m. refl) (λ _. moment_keeps flat.header n moment flat.sections)

gives_of : (n : ℕ) (flat : Flat) (o : Outcome) → Keeps flat o → GivesAt n flat.sections o.flat.sections
gives_of n flat o keeps = keeps_at n flat o.flat keeps

pub gives_at_one : (flat : Flat) (n : ℕ) (c : Command) → GivesAt n flat.sections (step flat n c).flat.sections
unfolding step
gives_at_one flat n (commands.Socket label options) = given_gives flat.header n label flat.sections
gives_at_one flat n (commands.Bind label end) = gives_of n flat (bind flat n (open_socket flat n label) end) (bind_keeps_all flat n (open_socket flat n label) end)
gives_at_one flat n (commands.Listen label) = gives_of n flat (listen flat n (open_socket flat n label)) (listen_keeps_all flat n (open_socket flat n label))
gives_at_one flat n (commands.Connect label from to) =
    gives_of n flat (connect flat n (open_socket flat n label) from to) (connect_keeps_all flat n (open_socket flat n label) from to)
gives_at_one flat n (commands.Accept listener label from at) =
    let name : ℕ = next_name n flat.sections in
    subst (GivesAt n flat.sections) (sym (accept_keeps_all (with_new_label flat n label) name (open_socket flat n listener) from at)) (given_gives flat.header n label flat.sections)
gives_at_one flat n (commands.Syn listener label from at) =
    let name : ℕ = next_name n flat.sections in
    subst (GivesAt n flat.sections) (sym (syn_keeps_all (with_new_label flat n label) name (open_socket flat n listener) from at)) (given_gives flat.header n label flat.sections)
gives_at_one flat n (commands.Ack request label) =
    let name : ℕ = next_name n flat.sections in
    subst (GivesAt n flat.sections) (sym (ack_keeps_all (with_new_label flat n label) n name (open_socket flat n request))) (given_gives flat.header n label flat.sections)
gives_at_one flat n (commands.Drop label) = gives_of n flat (drop flat (open_socket flat n label)) (drop_keeps_all flat (open_socket flat n label))
gives_at_one flat n (commands.Close label) =
    gives_of n flat (close flat n (open_socket flat n label)) (close_keeps_all flat n (open_socket flat n label))
gives_at_one flat n (commands.At moment) = gives_of n flat (at flat n moment) (at_keeps_all flat n moment)
gives_at_one flat n commands.Reap = gives_of n flat (reap flat n) (λ m. refl)
gives_at_one flat n (commands.Look query) = keeps_at n flat flat (λ m. refl)
gives_at_one flat n (commands.Packets count) = keeps_at n flat flat (λ m. refl)
gives_at_one flat n commands.Dump = keeps_at n flat flat (λ m. refl)

-- what a command does to labels: one more at most in each section, and none in others than its own
pub record LabelsStay (n : ℕ) (old new : List Section) : Type 0 where
  pub labels : GivesOneAtMost old new
  pub others : KeepsOthers n old new

pub labels_stay : (n : ℕ) (old new : List Section) → GivesAt n old new → LabelsStay n old new
labels_stay n old new gives = record { labels = one_at_most n old new gives; others = gives.others }

-- a command that is done
pub from_done : (old new : Flat) (n : ℕ) (c : Command) (reply : Reply) → step old n c ≡ record { flat = new; reply = reply } → LabelsStay n old.sections new.sections
from_done old new n c reply h =
    subst (λ o. LabelsStay n old.sections o.flat.sections) h (labels_stay n old.sections (step old n c).flat.sections (gives_at_one old n c))

-- a command that may have run out of memory
pub from_step : {E : Type 0} (old new : Flat) (n : ℕ) (c : Command) (r : Result Reply E) → IfOk r (λ reply. step old n c ≡ record { flat = new; reply = reply }) → OnErr r (new ≡ old) → LabelsStay n old.sections new.sections
from_step old new n c (Ok reply) h e = from_done old new n c reply h
from_step old new n c (Err x) h e = record { labels = λ m. rw e (omega arith); others = λ m apart. rw e refl }
