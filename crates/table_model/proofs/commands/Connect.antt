-- `connect`, carried out on tables that mean a list.
use Rattle.std.proofs.Common.{◌≡◌, ℕ, Bool, true, false, ◌&&◌, not, cond, List, find, Option, Some, None, refl, ap, sym, subst, inl, inr}
use Rattle.sock_card.specs.declared.owner.State.{State}
use Rattle.sock_card.specs.declared.owner.State.TheVariants as states
use Rattle.sock_card.specs.Conflict.{owner_key, is_time_wait}
use Rattle.bind_buckets.specs.declared.request.Request.TheVariants as requests
use Rattle.flat_list.specs.declared.command.End.{End}
use Rattle.flat_list.specs.declared.command.Reply.TheVariants as replies
use Rattle.flat_list.specs.declared.header.First.TheVariants as firsts
use Rattle.flat_list.specs.declared.socket.Socket.{Socket}
use Rattle.flat_list.specs.Connect as flat_connect
use Rattle.flat_list.specs.Flat.{Flat}
use Rattle.flat_list.specs.Outcome.{Outcome, unchanged, changed, no_slot, draw, has_slot as has_room}
use Rattle.flat_list.specs.Owned.{connected_to, source_of, is_no_end}
use Rattle.flat_list.specs.Ports.{port_order}
use Rattle.flat_list.specs.Sockets.{kind_of, is_owner, is_taken, is_claimed, put as put_socket, without_waiting}
use Rattle.flat_list.specs.Sound.{IsSound}
use Rattle.table_model.specs.declared.operation.OpEnd.TheVariants as errors
use Rattle.table_model.specs.Asking.{Asking, ends, and_then}
use Rattle.table_model.specs.Tables.{Tables, Ended, run}
use Rattle.table_model.specs.Own.{Own, Mine, ports_of}
use Rattle.table_model.specs.Operations.{Did, refused, connect_from, connect_bound, connect_hashed, search_connect, source_to, full_in}
use Rattle.table_model.specs.Commands.{Replied, connect_reply, connect_rule, after_search, is_unbound, is_some}
use Rattle.table_model.specs.Means.{OwnMeans, Means}
use Rattle.table_model.proofs.questions.Taken.{taken_same, rule_of}
use Rattle.table_model.proofs.commands.Comes.{HasCome, Came}
use Rattle.table_model.proofs.commands.ConnectOwner.{attempt, connected_list}
use Rattle.table_model.proofs.parts.OwnConnected.{own_connected}
use Rattle.table_model.proofs.commands.ConnectSearch.{AllStays, SearchedTo, searched_to, suits, list_at}
use Rattle.table_model.proofs.questions.Run.{Comes, comes_ends, comes_then, comes_weaken}
use Rattle.table_model.proofs.lists.Listed.{Listed}
use Rattle.table_model.proofs.questions.Asked.{with_sockets}
use Rattle.table_model.proofs.questions.Requests.{connect_bound_asked}
use Rattle.table_model.proofs.parts.Sections.{with_sections, same_ports, same_moment, own_drawn, drawn_sockets}
use Rattle.table_model.proofs.commands.Carried.{Carried}
use Rattle.table_model.proofs.commands.SocketAndAt.{sections_kept}

-- the reply is the list's, and what is left means what the list leaves, where that is sound
abbrev pub Good : ℕ → Outcome → Ended Replied → Type 0
Good n out e = (e.result.reply ≡ out.reply) × (IsSound out.flat → Means n e.result.own e.tables out.flat)

-- a plan that ends so is carried out
pub carried : (n : ℕ) (t : Tables) (p : Asking Replied) (out : Outcome) → Comes t p (Good n out) → Carried n t p out
carried n t p out c = record { ended = c.0; runs = c.1; reply = c.2.0; means = c.2.1 }

-- an operation's end is good, once it is replied to
abbrev pub GoodReply : ℕ → Own → Outcome → Ended Did → Type 0
GoodReply n own out e = Good n out (record { tables = e.tables; result = connect_reply own e.result })

-- an operation that ends so, and its reply
pub replied : (n : ℕ) (own : Own) (t : Tables) (p : Asking Did) (out : Outcome) → Comes t p (GoodReply n own out) → Carried n t (and_then p (λ did. ends (connect_reply own did))) out
replied n own t p out c =
    carried n t (and_then p (λ did. ends (connect_reply own did))) out
    (comes_then t p (λ did. ends (connect_reply own did)) (GoodReply n own out) (Good n out) c (λ e good. comes_ends e.tables (connect_reply own e.result) (Good n out) good))

module _ (n : ℕ) (own : Own) (t : Tables) (flat : Flat) (h : Means n own t flat) (s : Socket) (at : Listed s.owner.name flat.sockets s) (to : End) where
  abbrev moment : ℕ
  moment = own.moment

  abbrev switch : Bool
  switch = flat.header.twreuse

  -- from the bound port
  module _ (bound : s.owner.state ≡ states.Bound) (source : ℕ) where
    abbrev new : Socket
    new = flat_connect.connected_socket s source to

    abbrev out_as : Bool → Bool → Outcome
    out_as taken room =
        cond taken (unchanged flat replies.Eaddrnotavail)
        (cond (not room) (no_slot flat) (changed (flat_connect.replacing flat new.owner) new (replies.End (flat_connect.end_of new))))

    abbrev is_kept : Bool
    is_kept = is_taken switch moment new.owner flat.sockets

    abbrev P : Ended Did → Type 0
    P = GoodReply n own (out_as is_kept (has_room flat))

    good_as : (k room : Bool) → is_kept ≡ k → has_room flat ≡ room → (e : Ended Did) → GoodReply n own (out_as k room) e → P e
    good_as k room q r e g =
        subst (λ (b : Bool). GoodReply n own (out_as b (has_room flat)) e) (sym q) (subst (λ (b : Bool). GoodReply n own (out_as k b) e) (sym r) g)

    came_good : (e : Ended Did) → HasCome own flat new.owner (connected_list n own t flat h.tables h.shape h.sound h.own_is s at (ap is_time_wait bound) (ap kind_of bound) new refl refl) e → GoodReply n own (out_as false true) e
    came_good e c =
        let m : Mine = full_in flat.header.shape flat.header.seed new.owner c.0 in
        let came : Came e.tables own (with_sockets flat (put_socket new (without_waiting new.owner flat.sockets))) m = c.2 in
        subst (λ (d : Did). Good n (out_as false true) (record { tables = e.tables; result = connect_reply own d })) (sym c.1) (
          refl,
          λ sound. record {
            shape = h.shape;
            sound = sound;
            tables = came.tables;
            own_is = own_connected n own t e.tables flat new s m h.own_is h.sound.names h.sound.tuples h.sound.awake came.others at refl refl (ap is_time_wait bound) refl came.stands;
          },
        )

    pub bound_comes : Comes t (connect_bound flat.header.shape flat.header.seed (connected_to s.owner source to) moment (connect_rule flat.header)) P
    bound_comes =
        attempt n own t flat h.tables h.shape h.sound h.own_is s at (ap is_time_wait bound) (ap kind_of bound) new refl refl moment (rule_of switch) is_kept
        (taken_same t.chains flat switch moment new.owner h.tables.chains) (owner_key s.owner) (requests.ConnectBound s.owner.name source to.addr to.port)
        (connect_bound_asked t.buckets flat h.tables.owners h.shape.bind h.sound.names s.owner.name s at (ap is_owner bound) source to.addr to.port new refl)
        (connect_hashed flat.header.shape flat.header.seed new.owner) P (λ slot old. refl)
        (λ name k. comes_ends t (refused (errors.Taken name)) P (good_as true (has_room flat) k refl (record { tables = t; result = refused (errors.Taken name) }) (refl, λ sound. h)))
        (λ k room. comes_ends t (refused (errors.Full flat.header.shape.slots 0)) P (good_as false false k room (record { tables = t; result = refused (errors.Full flat.header.shape.slots 0) }) (refl, λ sound. h)))
        (λ e k room c. good_as false true k room e (came_good e c))

  -- from a port that is searched for
  module _ (unbound : s.owner.state ≡ states.Unbound) (source : ℕ) where
    abbrev drawn : Flat
    drawn = (draw flat n flat.header.offset).flat

    abbrev sections : Flat
    sections = with_sections flat drawn.sections

    abbrev own' : Own
    own' = after_search true own

    abbrev suits_here : ℕ → Bool
    suits_here = suits n own flat h.shape h.sound s at unbound source to moment switch

    abbrev searching : List ℕ → Asking Did
    searching ports = search_connect flat.header.shape flat.header.seed s.owner source to moment (connect_rule flat.header) ports

    abbrev found_out : Option ℕ → Flat → Outcome
    found_out o f = flat_connect.connect_found (record { port = o; flat = f }) s source to o

    abbrev at_port : ℕ → Socket
    at_port port = flat_connect.connected_by_search s source to port

    abbrev room_out : ℕ → Bool → Outcome
    room_out port room = cond (not room) (no_slot sections) (changed (flat_connect.replacing sections (at_port port).owner) (at_port port) (replies.End (flat_connect.end_of (at_port port))))

    own_so : (t' : Tables) → OwnMeans n own t' flat → OwnMeans n own' t' sections
    own_so t' o = subst (OwnMeans n own' t') (drawn_sockets flat n flat.header.offset) (own_drawn n own t' flat o)

    stays_good : (e : Ended Did) → AllStays n own flat e.tables → IsSound sections → Means n own' e.tables sections
    stays_good e stays sound = record {
      shape = h.shape;
      sound = sound;
      tables = sections_kept e.tables flat drawn.sections stays.0;
      own_is = own_so e.tables stays.1;
    }

    came_at : (port : ℕ) (e : Ended Did) → HasCome own flat (at_port port).owner (list_at n own flat h.shape h.sound s at unbound source to moment switch port) e → GoodReply n own' (room_out port true) e
    came_at port e c =
        let new : Socket = at_port port in
        let m : Mine = full_in flat.header.shape flat.header.seed new.owner c.0 in
        let came : Came e.tables own (with_sockets flat (put_socket new (without_waiting new.owner flat.sockets))) m = c.2 in
        subst (λ (d : Did). Good n (room_out port true) (record { tables = e.tables; result = connect_reply own' d })) (sym c.1) (
          refl,
          λ sound. record {
            shape = h.shape;
            sound = sound;
            tables = sections_kept e.tables (with_sockets flat (put_socket new (without_waiting new.owner flat.sockets))) drawn.sections came.tables;
            own_is = own_connected n own' t e.tables sections new s m (own_so t h.own_is) h.sound.names h.sound.tuples h.sound.awake came.others at refl refl (ap is_time_wait unbound) refl came.stands;
          },
        )

    searched_good : (o : Option ℕ) (e : Ended Did) → SearchedTo n own flat h.shape h.sound s at unbound source to moment switch o e → GoodReply n own' (found_out o sections) e
    searched_good None e c =
        subst (λ (d : Did). Good n (found_out None sections) (record { tables = e.tables; result = connect_reply own' d })) (sym c.0) (refl, stays_good e c.1)
    searched_good (Some port) e (inl c) =
        subst (λ (b : Bool). GoodReply n own' (room_out port b) e) (sym c.0)
        (subst (λ (d : Did). Good n (room_out port false) (record { tables = e.tables; result = connect_reply own' d })) (sym c.1) (refl, stays_good e c.2))
    searched_good (Some port) e (inr c) = subst (λ (b : Bool). GoodReply n own' (room_out port b) e) (sym c.0) (came_at port e c.1)

    abbrev suits_as : ℕ → ℕ → Bool
    suits_as time port = not (is_claimed port s.owner.net flat.sockets) && not (is_taken switch time (at_port port).owner flat.sockets)

    pub search_comes : Comes t (searching (ports_of own.offsets firsts.Even)) (GoodReply n own' (flat_connect.connect_search flat n s to (Some source)))
    search_comes =
        let ports : List ℕ = ports_of own.offsets firsts.Even in
        let there : Comes t (searching ports) (GoodReply n own' (found_out (find suits_here ports) sections)) =
        comes_weaken t (searching ports) (SearchedTo n own flat h.shape h.sound s at unbound source to moment switch (find suits_here ports)) (GoodReply n own' (found_out (find suits_here ports) sections))
        (searched_good (find suits_here ports)) (searched_to n own flat h.shape h.sound s at unbound source to moment switch ports t h.tables h.own_is) in
        subst (λ (time : ℕ). Comes t (searching ports) (GoodReply n own' (found_out (find (suits_as time) (port_order drawn.header.range (draw flat n flat.header.offset).offset firsts.Even)) drawn))) (sym (same_moment n own t flat h.own_is))
        (subst (λ (ps : List ℕ). Comes t (searching ports) (GoodReply n own' (found_out (find suits_here ps) drawn))) (same_ports n own t flat h.own_is firsts.Even)
        (subst (λ (f : Flat). Comes t (searching ports) (GoodReply n own' (found_out (find suits_here ports) f))) (sym (drawn_sockets flat n flat.header.offset)) there))

  abbrev do_reply : Own → Did → Asking Replied
  do_reply o did = ends (connect_reply o did)

  -- what a socket is refused that stays as it was
  refused_good : (out : Outcome) (p : Asking Replied) → out.flat ≡ flat → (r : Replied) → r.own ≡ own → r.reply ≡ out.reply → p ≡ ends r → Carried n t p out
  refused_good out p same r mine reply is = record {
    ended = record { tables = t; result = r };
    runs = ap (run t) is;
    reply = reply;
    means = λ sound. subst (λ (o : Own). Means n o t out.flat) (sym mine) (subst (Means n own t) (sym same) h);
  }

  module _ (from : Option ℕ) where
    abbrev bound_out : Option ℕ → Outcome
    bound_out o = flat_connect.connect_from flat n s to o

    bound_by : s.owner.state ≡ states.Bound → (o : Option ℕ)
        → Carried n t (and_then (connect_from flat.header.shape flat.header.seed states.Bound s.owner o to moment (connect_rule flat.header) (ports_of own.offsets firsts.Even)) (do_reply own)) (bound_out o)
    bound_by e None = refused_good (bound_out None) (do_reply own (refused errors.Inval)) refl (connect_reply own (refused errors.Inval)) refl refl refl
    bound_by e (Some source) =
        let p : Asking Did = connect_bound flat.header.shape flat.header.seed (connected_to s.owner source to) moment (connect_rule flat.header) in
        let new : Socket = flat_connect.connected_socket s source to in
        subst (λ (time : ℕ). Carried n t (and_then p (do_reply own)) (cond (is_taken switch time new.owner flat.sockets) (unchanged flat replies.Eaddrnotavail) (flat_connect.connect_as flat new))) (sym (same_moment n own t flat h.own_is))
        (replied n own t p (cond (is_taken switch moment new.owner flat.sockets) (unchanged flat replies.Eaddrnotavail) (flat_connect.connect_as flat new)) (bound_comes e source))

    unbound_by : s.owner.state ≡ states.Unbound → (o : Option ℕ)
        → Carried n t (and_then (connect_from flat.header.shape flat.header.seed states.Unbound s.owner o to moment (connect_rule flat.header) (ports_of own.offsets firsts.Even)) (do_reply (after_search (is_some o) own))) (flat_connect.connect_search flat n s to o)
    unbound_by e None = refused_good (flat_connect.connect_search flat n s to None) (do_reply own (refused errors.Inval)) refl (connect_reply own (refused errors.Inval)) refl refl refl
    unbound_by e (Some source) =
        replied n (after_search true own) t (search_connect flat.header.shape flat.header.seed s.owner source to moment (connect_rule flat.header) (ports_of own.offsets firsts.Even)) (flat_connect.connect_search flat n s to (Some source)) (search_comes e source)

    abbrev plan_from : State → Option ℕ → Asking Replied
    plan_from st o =
        and_then (connect_from flat.header.shape flat.header.seed st s.owner o to moment (connect_rule flat.header) (ports_of own.offsets firsts.Even)) (do_reply (after_search (is_unbound st && is_some o) own))

    bound_either : s.owner.state ≡ states.Bound → (b : Bool) (o : Option ℕ)
        → Carried n t (plan_from states.Bound (cond b None o)) (cond b (unchanged flat replies.Einval) (bound_out o))
    bound_either e true o = bound_by e None
    bound_either e false o = bound_by e o

    unbound_either : s.owner.state ≡ states.Unbound → (b : Bool) (o : Option ℕ)
        → Carried n t (plan_from states.Unbound (cond b None o)) (cond b (unchanged flat replies.Einval) (flat_connect.connect_search flat n s to o))
    unbound_either e true o = unbound_by e None
    unbound_either e false o = unbound_by e o

    is_conn : (began : Bool) → began ≡ false → Carried n t (do_reply (after_search began own) (refused errors.IsConn)) (unchanged flat replies.Eisconn)
    is_conn began e =
        refused_good (unchanged flat replies.Eisconn) (do_reply (after_search began own) (refused errors.IsConn)) refl (connect_reply (after_search began own) (refused errors.IsConn)) (ap (λ (b : Bool). after_search b own) e) refl refl

    by_state : (st : State) → s.owner.state ≡ st
        → Carried n t (plan_from st (cond (is_no_end to) None (source_of s.owner.addr from))) (flat_connect.connect_socket flat n s st from to)
    by_state states.Unbound e = unbound_either e (is_no_end to) (source_of s.owner.addr from)
    by_state states.Bound e = bound_either e (is_no_end to) (source_of s.owner.addr from)
    by_state states.Listening e = is_conn false refl
    by_state states.Full e = is_conn false refl
    by_state states.TimeWait e = is_conn false refl
    by_state states.Request e =
        refused_good (unchanged flat replies.Einval) (do_reply own (refused errors.Inval)) refl (connect_reply own (refused errors.Inval)) refl refl refl

    -- `connect` of an open socket
    pub connect_here : Carried n t (plan_from s.owner.state (source_to s.owner from to)) (flat_connect.connect_socket flat n s s.owner.state from to)
    connect_here = by_state s.owner.state refl
